-- What verdicts say of all entries at once, from kind to kind and from place to place.
use Rattle.std.specs.Prelude.{Bool, true, false, not, nat_lt, ◌==◌, ◌&&◌, ◌||◌, Option, Some, None, Vec, slice_get}
use Rattle.std.specs.declared.alloc.Global.{Global}
use Rattle.std.specs.Option.{option_flatten}
use Rattle.std.proofs.Common.{[], ◌∷◌, ◌≡◌, ◌≢◌, ℕ, ◌+◌, ◌<◌, ◌≤◌, List, length, drop, get_or, refl, sym, ap, ◌∙◌, inl, inr, arith, eq-eqb, ne_eqb}
use Rattle.std.proofs.lemmas.Bool.{cases_eq}
use Rattle.std.proofs.lemmas.List.{drop_all}
use Rattle.std.proofs.lemmas.Option.{slice_get-get_or, slice_get_past}
use Rattle.ang_check_added.specs.declared.sets.EntrySet.{EntrySet}
use Rattle.ang_check_added.specs.Sets.{IsOnlyIn, StandsBy, has_count, in_kind, in_set, is_number, is_winner, kind_at, sets_in}
use Rattle.ang_check_added.specs.Verdicts.{verdict_at, verdicts_in, wins_by}
use Rattle.ang_check_added.proofs.Judging.{from_place, goes_on, other_number}
use Rattle.ang_check_added.proofs.SetLaws.{all_below, further, turned}

-- ---- from kind to kind

turned_round : (a b : ℕ) → (a == b) ≡ (b == a)
turned_round a b =
    elim (cases_eq a b) [
      | inl e ↦ eq-eqb a b e ∙ sym (eq-eqb b a (sym e))
      | inr ne ↦ ne_eqb a b ne ∙ sym (ne_eqb b a (λ e. ne (sym e)))
    ]

module _ (sets : List (Option EntrySet)) (verdicts : List ℕ) (what k n : ℕ) (only : IsOnlyIn sets k n) where
  is_there : (q : ℕ) (d : Option EntrySet) → q < length sets → in_set (get_or sets q d) n ≡ (q == k)
  is_there q d lt = ap (λ o. in_set (option_flatten o) n) (sym (slice_get-get_or sets q d lt)) ∙ only q ∙ turned_round k q

  pub kind_more : (q v : ℕ) (d : Option EntrySet) (old now new : Bool) → q < length sets → v ≡ verdict_at verdicts q
      → now ≡ (old || (nat_lt k q && (verdict_at verdicts k == what))) → new ≡ (now || ((v == what) && in_set (get_or sets q d) n))
      → new ≡ (old || (nat_lt k (q + 1) && (verdict_at verdicts k == what)))
  kind_more q v d old now new lt is_v is_now is_new =
      further old now new k q (verdict_at verdicts k == what) (v == what) is_now
      (is_new
      ∙ ap (λ b. now || ((v == what) && b)) (is_there q d lt)
      ∙ ap (λ b. now || b) (turned (v == what) (q == k)))
      (λ e. ap (λ x. x == what) (is_v ∙ ap (verdict_at verdicts) e))

  past_kinds : length sets ≤ k → (verdict_at verdicts k == what) ≡ false
  past_kinds le =
      let no' : false ≡ true = ap (λ o. in_set (option_flatten o) n) (sym (slice_get_past sets k le)) ∙ only k ∙ eq-eqb k k refl in
      cc

  pub kinds_end : (q : ℕ) (old now : Bool) → length sets ≤ q → now ≡ (old || (nat_lt k q && (verdict_at verdicts k == what)))
      → now ≡ (old || (verdict_at verdicts k == what))
  kinds_end q old now over is_now = is_now ∙ all_below old (verdict_at verdicts k == what) k q (λ le. past_kinds (omega (arith, over, le)))

-- ---- from place to place

not_either : (lost x rest : Bool) → (not (lost || x) && rest) ≡ (not lost && (not x && rest))
not_either true x rest = refl
not_either false x rest = refl

-- an entry is in the sets of the kind of its number at a place, and of no other one
pub only_there : (places : List (Vec (Option EntrySet) Global)) (sets : List (Option EntrySet)) (ns : List ℕ) (n p : ℕ) → sets ≡ sets_in places p → StandsBy places ns n → p < length ns
    → IsOnlyIn sets (get_or ns p 0) n
only_there places sets ns n p is stands lt j =
    ap (λ s. in_kind s j n) is
    ∙ stands p j
    ∙ ap (λ o. is_number o j) (slice_get-get_or ns p 0 lt)

pub place_more : (rows : List (Vec ℕ Global)) (ns : List ℕ) (p : ℕ) (v : Vec ℕ Global) (verdicts : List ℕ) (lost lost' ahead ahead' won : Bool) → p < length rows → length ns ≡ length rows
    → v ≡ get_or rows p v → verdicts ≡ v.items
    → lost' ≡ (lost || (verdict_at verdicts (get_or ns p 0) == 2)) → ahead' ≡ (ahead || (verdict_at verdicts (get_or ns p 0) == 1))
    → (not lost && from_place rows ns p ahead) ≡ won → (not lost' && from_place rows ns (p + 1) ahead') ≡ won
place_more rows ns p v verdicts lost lost' ahead ahead' won lt same is_v is_row is_lost is_ahead is_won =
    let k = get_or ns p 0 in
    let l : lost' ≡ (lost || (verdict_at v.items k == 2)) = is_lost ∙ ap (λ xs. lost || (verdict_at xs k == 2)) is_row in
    let a : ahead' ≡ (ahead || (verdict_at v.items k == 1)) = is_ahead ∙ ap (λ xs. ahead || (verdict_at xs k == 1)) is_row in
    (λ i. not (l i) && from_place rows ns (p + 1) (a i))
    ∙ not_either lost (verdict_at v.items k == 2) (from_place rows ns (p + 1) (ahead || (verdict_at v.items k == 1)))
    ∙ ap (λ b. not lost && b) (sym (goes_on rows ns p v ahead lt same is_v))
    ∙ is_won

all_places : (rows : List (Vec ℕ Global)) (ns : List ℕ) (p : ℕ) (ahead : Bool) → length rows ≤ p → length ns ≡ length rows → from_place rows ns p ahead ≡ ahead
all_places rows ns p ahead over same =
    let no_row : drop p rows ≡ [] = drop_all p rows over in
    let no_number : drop p ns ≡ [] = drop_all p ns (omega (arith, over, same)) in
    (λ i. wins_by (verdicts_in (no_row i)) (no_number i) ahead)

pub places_end : (rows : List (Vec ℕ Global)) (ns : List ℕ) (p : ℕ) (among lost ahead at_first result : Bool) → length rows ≤ p → among ≡ (length ns == length rows)
    → (length ns ≡ length rows → among ≡ true → (not lost && from_place rows ns p ahead) ≡ wins_by (verdicts_in rows) ns at_first)
    → result ≡ (among && (not lost && ahead)) → result ≡ wins_by (verdicts_in rows) ns at_first
places_end rows ns p among lost ahead at_first result over is_among won is =
    elim (cases_eq (length ns) (length rows)) [
      | inl same ↦
          let there : among ≡ true = is_among ∙ eq-eqb (length ns) (length rows) same in
          is
          ∙ ap (λ b. b && (not lost && ahead)) there
          ∙ ap (λ b. not lost && b) (sym (all_places rows ns p ahead over same))
          ∙ won same there
      | inr other ↦
          is
          ∙ ap (λ b. b && (not lost && ahead)) (is_among ∙ ne_eqb (length ns) (length rows) other)
          ∙ sym (other_number rows ns at_first other)
    ]

-- ---- an entry's row

pub winner_is : (rows : List (Vec ℕ Global)) (places : List (Vec (Option EntrySet) Global)) (at_first : Bool) (n : ℕ) (row : Option (List ℕ)) (among result : Bool)
    → ((p k : ℕ) → in_kind (sets_in places p) k n ≡ is_number (kind_at row p) k) → among ≡ has_count row (length rows)
    → ((ns : List ℕ) → StandsBy places ns n → among ≡ (length ns == length rows) → result ≡ wins_by (verdicts_in rows) ns at_first)
    → (among ≡ false → result ≡ false) → result ≡ is_winner (verdicts_in rows) at_first row
winner_is rows places at_first n None among result stands is_among wins none = none is_among
winner_is rows places at_first n (Some ns) among result stands is_among wins none = wins ns stands is_among

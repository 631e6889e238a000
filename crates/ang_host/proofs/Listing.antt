-- Events as they are kept: what is added to the lists beside the heads leaves the events that are read back.
use Rattle.std.specs.Prelude.{ℕ, ◌+◌, ◌≡◌, ◌<◌, ◌≤◌, true, false, List, All, [], ◌∷◌, ◌++◌, Option, Some, length, take, drop, slice_get, slice_index_or}
use Rattle.std.proofs.Common.{zero, suc, refl, sym, ◌∙◌, ap, subst, arith, rules}
use Rattle.std.proofs.lemmas.List.{append-nil, map-append, length-append, take-append-le, drop-append-le, length-drop, get_or_append_left}
use Rattle.std.proofs.lemmas.List.Elements.{All-append}
use Rattle.std.proofs.lemmas.Option.{get_or_from_slice_get}
use Rattle.std.proofs.Math.Seq.{drop-append_seam}
use Rattle.ang_kinds.specs.declared.mask.EntityNo.{EntityNo}
use Rattle.ang_kinds.specs.declared.value.Value.{Value}
use Rattle.ang_host.specs.declared.answer.HostReply.{HostReply}
use Rattle.ang_host.specs.declared.event.HostEvent.{HostEvent}
use Rattle.ang_host.specs.declared.event.HostEvent.TheVariants.{Called, Ended}
use Rattle.ang_host.specs.declared.head.Head.{Head}
use Rattle.ang_host.specs.Events.{ends_listed}
use Rattle.ang_host.specs.Heads.{is_end, event_with, event_at, read_back, IsWithin}

pub ends_listed_few : (es : List HostEvent) → ends_listed es ≤ length es
ends_listed_few [] = omega arith
ends_listed_few (Called caller entity driver object args reply ∷ es) = omega (arith, ends_listed_few es)
ends_listed_few (Ended driver key ∷ es) = omega (arith, ends_listed_few es)

pub ends_listed_join : (es fs : List HostEvent) → ends_listed (es ++ fs) ≡ ends_listed es + ends_listed fs
ends_listed_join [] fs = omega arith
ends_listed_join (Called caller entity driver object args reply ∷ es) fs = ends_listed_join es fs
ends_listed_join (Ended driver key ∷ es) fs = omega (arith, ends_listed_join es fs)

-- the front of a list that grew
take_drop_front : {X : Type 0} (xs ys : List X) (i n : ℕ) → i + n ≤ length xs → take n (drop i (xs ++ ys)) ≡ take n (drop i xs)
take_drop_front xs ys i n fits =
    ap (λ l. take n l) (drop-append-le i xs ys (omega (arith, fits)))
    ∙ take-append-le n (drop i xs) ys (omega (arith, fits, length-drop i xs))

take_all : {X : Type 0} (xs : List X) → take (length xs) xs ≡ xs
take_all [] = refl
take_all (x ∷ xs) = ap (λ l. x ∷ l) (take_all xs)

-- what a head wants stays where it is
event_stays : (ns ms : List (List ℕ)) (vs ws : List Value) (h : Head) → IsWithin (length ns) (length vs) h
    → event_at (ns ++ ms) (vs ++ ws) h ≡ event_at ns vs h
event_stays ns ms vs ws h within =
    elim (is_end h.kind) as (λ b. (b ≡ false → h.caller < length ns)
    → event_with b h (slice_index_or (ns ++ ms) h.caller []) (take h.count (drop h.first (vs ++ ws)))
    ≡ event_with b h (slice_index_or ns h.caller []) (take h.count (drop h.first vs))) [
      | true ↦ λ named. refl
      | false ↦ λ named.
          ap (λ n. event_with false h n (take h.count (drop h.first (vs ++ ws)))) (get_or_append_left ns ms [] h.caller (named refl))
          ∙ ap (λ l. event_with false h (slice_index_or ns h.caller []) l) (take_drop_front vs ws h.first h.count within.placed)
    ]
    within.named

pub read_stays : (ns ms : List (List ℕ)) (vs ws : List Value) (hs : List Head) → All (IsWithin (length ns) (length vs)) hs
    → read_back (ns ++ ms) (vs ++ ws) hs ≡ read_back ns vs hs
read_stays ns ms vs ws [] all = refl
read_stays ns ms vs ws (h ∷ hs) all =
    ap (λ e. e ∷ read_back (ns ++ ms) (vs ++ ws) hs) (event_stays ns ms vs ws h (all 0 h (omega arith)))
    ∙ ap (λ es. event_at ns vs h ∷ es) (read_stays ns ms vs ws hs (λ k d lt. all (suc k) d (omega (arith, lt))))

within_stays : (ns ms : List (List ℕ)) (vs ws : List Value) (h : Head) → IsWithin (length ns) (length vs) h
    → IsWithin (length (ns ++ ms)) (length (vs ++ ws)) h
within_stays ns ms vs ws h within =
    record {
      named = λ call. omega (arith, within.named call, length-append ns ms);
      placed = omega (arith, within.placed, length-append vs ws);
    }

-- one name more
pub name_added : (ns : List (List ℕ)) (n : List ℕ) (vs : List Value) (hs : List Head) → All (IsWithin (length ns) (length vs)) hs
    → read_back (ns ++ n ∷ []) vs hs ≡ read_back ns vs hs
name_added ns n vs hs all =
    ap (λ l. read_back (ns ++ n ∷ []) l hs) (sym (append-nil vs)) ∙ read_stays ns (n ∷ []) vs [] hs all

pub within_names : (ns : List (List ℕ)) (n : List ℕ) (vs : List Value) (hs : List Head) → All (IsWithin (length ns) (length vs)) hs
    → All (IsWithin (length (ns ++ n ∷ [])) (length vs)) hs
within_names ns n vs hs all =
    subst (λ l. All (IsWithin (length (ns ++ n ∷ [])) (length l)) hs) (append-nil vs)
    (λ k d lt. within_stays ns (n ∷ []) vs [] (slice_index_or hs k d) (all k d lt))

-- one head more
pub within_added : (names values : ℕ) (hs : List Head) (h : Head) → All (IsWithin names values) hs → IsWithin names values h
    → All (IsWithin names values) (hs ++ h ∷ [])
within_added names values hs h all within =
    All-append (IsWithin names values) hs (h ∷ []) all (only h within)
  where
    only : (h : Head) → IsWithin names values h → All (IsWithin names values) (h ∷ [])
    only h within zero d lt = within
    only h within (suc k) d lt = absurd (omega (arith, lt))

-- one host call more, whose arguments stand at the end
pub call_added : (ns : List (List ℕ)) (vs ws : List Value) (hs : List Head) (h : Head) (caller : List ℕ) (number first count : ℕ)
    → All (IsWithin (length ns) (length vs)) hs → is_end h.kind ≡ false → slice_get ns number ≡ Some caller
    → first ≡ length vs → count ≡ length ws
    → read_back ns (vs ++ ws) (hs ++ record h { first = first; count = count; caller = number } ∷ [])
    ≡ read_back ns vs hs ++ event_with (is_end h.kind) h caller ws ∷ []
call_added ns vs ws hs h caller number first count all call named at many =
    map-append (event_at ns (vs ++ ws)) hs (g ∷ [])
    ∙ ap (λ es. es ++ event_at ns (vs ++ ws) g ∷ []) before
    ∙ ap (λ e. read_back ns vs hs ++ e ∷ []) this
  where
    g : Head
    g = record h { first = first; count = count; caller = number }

    before : read_back ns (vs ++ ws) hs ≡ read_back ns vs hs
    before = ap (λ l. read_back l (vs ++ ws) hs) (sym (append-nil ns)) ∙ read_stays ns [] vs ws hs all

    args : take count (drop first (vs ++ ws)) ≡ ws
    args =
        ap (λ i. take count (drop i (vs ++ ws))) at ∙ ap (λ l. take count l) (drop-append_seam vs ws)
        ∙ ap (λ n. take n ws) many ∙ take_all ws

    this : event_at ns (vs ++ ws) g ≡ event_with (is_end h.kind) h caller ws
    this =
        ap (λ b. event_with b g (slice_index_or ns number []) (take count (drop first (vs ++ ws)))) call
        ∙ ap (λ n. event_with false h n (take count (drop first (vs ++ ws)))) (get_or_from_slice_get ns number caller [] named)
        ∙ ap (λ l. event_with false h caller l) args ∙ ap (λ b. event_with b h caller ws) (sym call)

-- one event more, and what it counts for
pub one_more : (es fs : List HostEvent) (e : HostEvent) → fs ≡ es ++ e ∷ [] → length fs ≡ length es + 1
one_more es fs e more = omega (arith, ap length more, length-append es (e ∷ []))

pub call_counts : (es fs : List HostEvent) (e : HostEvent) (caller : List ℕ) (entity : EntityNo) (driver : ℕ) (object : Option ℕ)
    (args : List Value) (reply : HostReply) → fs ≡ es ++ e ∷ [] → e ≡ Called caller entity driver object args reply
    → ends_listed fs ≡ ends_listed es
call_counts es fs e caller entity driver object args reply more is =
    let one : ends_listed (e ∷ []) ≡ 0 = ap (λ x. ends_listed (x ∷ [])) is in
    omega (arith, ap ends_listed more, ends_listed_join es (e ∷ []), one)

pub end_counts : (es fs : List HostEvent) (e : HostEvent) (driver key : ℕ) → fs ≡ es ++ e ∷ [] → e ≡ Ended driver key
    → ends_listed fs ≡ ends_listed es + 1
end_counts es fs e driver key more is =
    let one : ends_listed (e ∷ []) ≡ 1 = ap (λ x. ends_listed (x ∷ [])) is in
    omega (arith, ap ends_listed more, ends_listed_join es (e ∷ []), one)

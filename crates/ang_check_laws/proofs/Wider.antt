-- A view with a hidden entry added keeps the values of enumerations that are seen.
use Rattle.std.specs.Prelude.{◌≡◌, ◌+◌, ◌==◌, ℕ, zero, suc, Bool, true, false, not, ◌&&◌, ◌||◌, cond, if◌then◌else◌, bytes_eq, filter, length, List, [], ◌∷◌, Option, Some, None}
use Rattle.std.specs.List.{position, position_from, range_with_len}
use Rattle.std.proofs.Common.{arith, refl, ap, sym, ◌∙◌}
use Rattle.std.proofs.lemmas.Slice.Eq.{bytes_eq-Decides}
use Rattle.ang_kinds.specs.Masks.{meets}
use Rattle.ang_kinds.specs.declared.mask.EntityNo.{EntityNo}
use Rattle.ang_kinds.specs.declared.mask.Mask.{Mask}
use Rattle.ang_view.specs.declared.entry.Entry.{Entry}
use Rattle.ang_view.specs.declared.entry.EntryKind.{EntryKind}
use Rattle.ang_view.specs.declared.entry.EntryKind.TheVariants as entry
use Rattle.ang_view.specs.Hidden.{is_with, numbers_of, seen_with}
use Rattle.ang_view.specs.Named.{is_member, is_member_kind, is_type_entry, is_value, members, owned}
use Rattle.ang_view.specs.Registration.{RegistrationList, entry_at, has_mask_for, is_host_type, is_named_by, is_number, is_seen, is_type, named as types_of, seen, seen_entry}
use Rattle.ang_view.specs.Types.{enumeration_named, is_enumeration, is_enumeration_named, is_type_named, type_named}
use Rattle.ang_view.proofs.Lists.{and_gives, and_from, Decides-list_all-filter}
use Rattle.ang_view.proofs.Seen.{entry_at-seen, length-seen, position-passes}
use Rattle.ang_view.proofs.ViewTypes.{enumeration_is_type, is_seen-in_view}
use Rattle.ang_names_known.specs.declared.space.Named.TheVariants as named
use Rattle.ang_names_known.specs.Spaces.{family_or_host, type_of_name}
use Rattle.ang_check_contest.proofs.Adding.{entry_at-seen_with, length-seen_with}
use Rattle.ang_check_denials.specs.Names.{is_a_type_named}
use Rattle.ang_check_denials.proofs.Types.{enumeration_is, enumeration_has_kind, enumeration_has_name, type_has_kind, type_has_name}
use Rattle.ang_check_uses.specs.Uses.{first_value, value_at, value_by, value_in, value_of}
use Rattle.ang_check_laws.specs.Beyond.{IsRegistered}
use Rattle.ang_check_laws.proofs.TryingUses.{KeepsValues}

-- ---- what passes a test

by_head : (p : Option Entry → Bool) (n : ℕ) (y : Option Entry) (ys : RegistrationList) (k : ℕ) (b : Bool) → p y ≡ b
    → ((j : ℕ) → position_from p (n + 1) ys ≡ None → p (entry_at ys j) ≡ false) → cond b (Some n) (position_from p (n + 1) ys) ≡ None
    → p (entry_at (y ∷ ys) k) ≡ false
by_head p n y ys k true is rest e = cc
by_head p n y ys zero false is rest e = is
by_head p n y ys (suc k) false is rest e = rest k e

-- where no entry of a list passes, none at a place does
none_from : (p : Option Entry → Bool) → p None ≡ false → (n : ℕ) (xs : RegistrationList) (k : ℕ) → position_from p n xs ≡ None → p (entry_at xs k) ≡ false
none_from p off n [] k e = off
none_from p off n (y ∷ ys) k e = by_head p n y ys k (p y) refl (λ j f. none_from p off (n + 1) ys j f) e

not_both : (k : EntryKind) → is_enumeration k ≡ true → is_host_type k ≡ true → ⊥
not_both entry.HostType e f = cc
not_both entry.Factory e f = cc
not_both entry.Method e f = cc
not_both entry.Property e f = cc
not_both entry.Function e f = cc
not_both entry.Global e f = cc
not_both entry.Enumeration e f = cc
not_both (entry.EnumValue v) e f = cc

never_both : (name : List ℕ) (o : Option Entry) → is_enumeration_named name o ≡ true → is_type_named name o ≡ true → ⊥
never_both name None e f = cc
never_both name (Some t) e f = not_both t.kind (and_gives (is_enumeration t.kind) _ e).0 (and_gives (is_host_type t.kind) _ f).0

enumeration_entry : (name : List ℕ) (o : Option Entry) → is_enumeration_named name o ≡ true → is_type_entry o ≡ true
enumeration_entry name None e = cc
enumeration_entry name (Some t) e = enumeration_is_type t.kind (and_gives (is_enumeration t.kind) _ e).0

-- an enumeration is what a name means where nothing in front of it does
enumeration_alone : (c host enumeration : Option ℕ) (n : ℕ) → family_or_host c host enumeration ≡ named.Enumeration n
    → (c ≡ None) × (host ≡ None) × (enumeration ≡ Some n)
enumeration_alone (Some c) host enumeration n e = cc
enumeration_alone None (Some k) enumeration n e = cc
enumeration_alone None None (Some k) n e = (refl, refl, cc)
enumeration_alone None None None n e = cc

number_is : (n : ℕ) (o : Option EntityNo) → is_number n o ≡ true → o ≡ Some (record { 0 = n })
number_is n None e = cc
number_is n (Some a) e = let is : a.0 ≡ n = search (arith, e) in ap (λ (j : ℕ). Some (record { 0 = j })) is

-- ---- values

no_value : (k : ℕ) (kind : EntryKind) (owner : Option EntityNo) → is_value kind ≡ false → value_by k kind owner ≡ None
no_value k entry.HostType owner e = refl
no_value k entry.Factory owner e = refl
no_value k entry.Method owner e = refl
no_value k entry.Property owner e = refl
no_value k entry.Function owner e = refl
no_value k entry.Global owner e = refl
no_value k entry.Enumeration owner e = refl
no_value k (entry.EnumValue v) owner e = cc

or_second : (a b : Bool) → b ≡ false → (a || b) ≡ true → a ≡ true
or_second true b e f = refl
or_second false b e f = cc

member_owner : (n : ℕ) (value : List ℕ) (y : Entry) → is_member n value (Some y) ≡ true → is_number n y.owner ≡ true
member_owner n value y e = (and_gives (is_number n y.owner) _ (and_gives (is_member_kind y.kind) _ e).1).0

-- the first number that passes one test is a value of none, if that of the other is
module _ (V W : RegistrationList) (n : ℕ) (value : List ℕ)
    (same : (k : ℕ) → is_member n value (entry_at V k) ≡ true → entry_at W k ≡ entry_at V k)
    (more : (k : ℕ) → is_member n value (entry_at V k) ≡ false → is_member n value (entry_at W k) ≡ true → value_at W k ≡ None)
  where
    by_first : (k : ℕ) (vs ws : List ℕ) (b c : Bool) → is_member n value (entry_at V k) ≡ b → is_member n value (entry_at W k) ≡ c
        → (first_value V vs ≡ None → first_value W ws ≡ None) → first_value V (cond b (k ∷ vs) vs) ≡ None → first_value W (cond c (k ∷ ws) ws) ≡ None
    by_first k vs ws true true f g rest e = ap (value_in k) (same k f) ∙ e
    by_first k vs ws true false f g rest e =
        let no' : true ≡ false = sym f ∙ ap (is_member n value) (sym (same k f)) ∙ g in cc
    by_first k vs ws false true f g rest e = more k f g
    by_first k vs ws false false f g rest e = rest e

    first_kept : (ns : List ℕ) → first_value V (filter (λ k. is_member n value (entry_at V k)) ns) ≡ None
        → first_value W (filter (λ k. is_member n value (entry_at W k)) ns) ≡ None
    first_kept [] e = refl
    first_kept (k ∷ ns) e = by_first k _ _ (is_member n value (entry_at V k)) (is_member n value (entry_at W k)) refl refl (first_kept ns) e

-- ---- over a list that a registry made

module _ (R : RegistrationList) (m : ℕ) (h : IsRegistered R) (x : ℕ) where
  abbrev V : RegistrationList
  V = seen R m

  abbrev W : RegistrationList
  W = seen_with R m x

  one_type : (name : List ℕ) (j k : ℕ) (o q : Option Entry) → entry_at R j ≡ o → entry_at R k ≡ q → is_a_type_named name o ≡ true
      → is_a_type_named name q ≡ true → j ≡ k
  one_type name j k None q e f a b = cc
  one_type name j k (Some t) None e f a b = cc
  one_type name j k (Some t) (Some u) e f a b =
      let t_is = and_gives (is_type t.kind) (bytes_eq t.signature.name name) a in
      let u_is = and_gives (is_type u.kind) (bytes_eq u.signature.name name) b in
      h.types j k t u e f t_is.0 u_is.0 ((bytes_eq-Decides t.signature.name name).0 t_is.1 ∙ sym ((bytes_eq-Decides u.signature.name name).0 u_is.1))

  listed_by : (y t : Entry) (s : Bool) → cond s (Some y) None ≡ Some t → Some y ≡ Some t
  listed_by y t true e = e
  listed_by y t false e = cc

  -- what is seen is listed
  listed : (o : Option Entry) (t : Entry) → seen_entry R m o ≡ Some t → o ≡ Some t
  listed None t e = cc
  listed (Some y) t e = listed_by y t (is_seen R m y) e

  kept_by : (b : Bool) (o : Option Entry) (t : Entry) → seen_entry R m o ≡ Some t → cond b o (seen_entry R m o) ≡ Some t
  kept_by true o t e = listed o t e
  kept_by false o t e = e

  -- what is seen stays so
  within : (k : ℕ) (t : Entry) → entry_at V k ≡ Some t → entry_at W k ≡ Some t
  within k t e = entry_at-seen_with R m x k ∙ kept_by (is_with R x k) (entry_at R k) t (sym (entry_at-seen R m k) ∙ e)

  listed_of : (b : Bool) (o : Option Entry) (t : Entry) → cond b o (seen_entry R m o) ≡ Some t → o ≡ Some t
  listed_of true o t e = e
  listed_of false o t e = listed o t e

  listed_with : (k : ℕ) (t : Entry) → entry_at W k ≡ Some t → entry_at R k ≡ Some t
  listed_with k t e = listed_of (is_with R x k) (entry_at R k) t (sym (entry_at-seen_with R m x k) ∙ e)

  -- ---- an enumeration that is seen

  module _ (name : List ℕ) (n : ℕ) (is : enumeration_named V name ≡ Some n) where
    found : is_enumeration_named name (entry_at V n) ≡ true
    unfolding enumeration_named
    found = (position-passes (is_enumeration_named name) V n None is).1

    same_by : (o : Option Entry) → entry_at V n ≡ o → is_enumeration_named name o ≡ true → (entry_at W n ≡ o) × (entry_at R n ≡ o)
    same_by None e f = cc
    same_by (Some t) e f = (within n t e, listed_with n t (within n t e))

    same_entry : (entry_at W n ≡ entry_at V n) × (entry_at R n ≡ entry_at V n)
    same_entry = same_by (entry_at V n) refl found

    listed_type : is_a_type_named name (entry_at R n) ≡ true
    listed_type = enumeration_has_kind name (entry_at R n) (ap (is_enumeration_named name) same_entry.1 ∙ found)

    no_type : (o : Option ℕ) → type_named W name ≡ o → o ≡ None
    no_type None e = refl
    no_type (Some k) e =
        let here = type_has_name R m x name k e in
        let same : n ≡ k = one_type name n k (entry_at R n) (entry_at R k) refl refl listed_type (type_has_kind name (entry_at R k) here) in
        absurd
        (never_both name (entry_at R n) (ap (is_enumeration_named name) same_entry.1 ∙ found)
        (ap (λ j. is_type_named name (entry_at R j)) same ∙ here))

    that_one : (o : Option ℕ) → enumeration_named W name ≡ o → o ≡ Some n
    that_one None e =
        let off = none_from (is_enumeration_named name) refl 0 W n (sym (enumeration_is W name) ∙ e) in
        let no' : true ≡ false = sym found ∙ ap (is_enumeration_named name) (sym same_entry.0) ∙ off in cc
    that_one (Some k) e =
        let here = enumeration_has_kind name (entry_at R k) (enumeration_has_name R m x name k e) in
        ap Some (one_type name k n (entry_at R k) (entry_at R n) refl refl here listed_type)

    -- ---- its values

    module _ (value : List ℕ) where
      same_member : (k : ℕ) (o : Option Entry) → entry_at V k ≡ o → is_member n value o ≡ true → entry_at W k ≡ o
      same_member k None e f = cc
      same_member k (Some t) e f = within k t e

      mask_by : (t : Entry) (o : Option Entry) → o ≡ Some t → has_mask_for m (Some t) ≡ true → has_mask_for m o ≡ true
      mask_by t o e f = ap (has_mask_for m) e ∙ f

      named_mask : (k : ℕ) (y t : Entry) → entry_at R k ≡ Some y → is_value y.kind ≡ true → y.owner ≡ Some (record { 0 = n }) → entry_at R n ≡ Some t
          → has_mask_for m (Some t) ≡ true → (j : ℕ) (o : Option Entry) → entry_at R j ≡ o → is_named_by y j o ≡ true → has_mask_for m o ≡ true
      named_mask k y t e v own there mask j None f by = cc
      named_mask k y t e v own there mask j (Some u) f by =
          let mine = (and_gives (not (is_type y.kind) && is_type u.kind) _ by).1 in
          let number : is_number j y.owner ≡ true = or_second (is_number j y.owner) _ (h.values k y e v u.signature.name) mine in
          let at : (n == j) ≡ true = ap (is_number j) (sym own) ∙ number in
          let there_too : n ≡ j = search (arith, at) in
          ap (has_mask_for m) (sym f ∙ ap (entry_at R) (sym there_too) ∙ there) ∙ mask

      -- a value of an enumeration that is seen is seen
      value_is_seen : (k : ℕ) (y t : Entry) → entry_at R k ≡ Some y → is_value y.kind ≡ true → is_number n y.owner ≡ true → entry_at R n ≡ Some t
          → is_seen R m t ≡ true → is_seen R m y ≡ true
      unfolding is_seen types_of
      value_is_seen k y t e v own there s =
          let owner = number_is n y.owner own in
          let meets_m : meets t.mask.0 m ≡ true = (and_gives (meets t.mask.0 m) _ s).0 in
          let same = h.masks k n y t e v owner there in
          and_from (meets y.mask.0 m) _ (ap (λ (a : Mask). meets a.0 m) same ∙ meets_m)
          ((Decides-list_all-filter (λ j. is_named_by y j (entry_at R j)) (λ j. has_mask_for m (entry_at R j)) 0 (length R)).1
          (λ j low high by. named_mask k y t e v owner there meets_m j (entry_at R j) refl by))

      value_by_kind : (k : ℕ) (y t : Entry) → entry_at R k ≡ Some y → is_number n y.owner ≡ true → entry_at R n ≡ Some t → is_seen R m t ≡ true
          → is_member n value (Some y) ≡ true → is_member n value (entry_at V k) ≡ false → (b : Bool) → is_value y.kind ≡ b → value_in k (Some y) ≡ None
      value_by_kind k y t e own there s member off true v =
          let shown : entry_at V k ≡ Some y =
          entry_at-seen R m k ∙ ap (seen_entry R m) e ∙ ap (λ b. cond b (Some y) None) (value_is_seen k y t e v own there s) in
          let no' : false ≡ true = sym off ∙ ap (is_member n value) shown ∙ member in cc
      value_by_kind k y t e own there s member off false v = no_value k y.kind y.owner v

      more_by : (k : ℕ) (o q : Option Entry) → entry_at W k ≡ o → entry_at V n ≡ q → is_enumeration_named name q ≡ true
          → is_member n value (entry_at V k) ≡ false → is_member n value o ≡ true → value_in k o ≡ None
      more_by k None q e f t off on = refl
      more_by k (Some y) None e f t off on = cc
      more_by k (Some y) (Some u) e f t off on =
          value_by_kind k y u (listed_with k y e) (member_owner n value y on) (same_entry.1 ∙ f) (is_seen-in_view R m n u f) on off (is_value y.kind) refl

      many : length W ≡ length V
      many = length-seen_with R m x ∙ sym (length-seen R m)

      seen_type : is_type_entry (entry_at V n) ≡ true
      seen_type = enumeration_entry name (entry_at V n) found

      members_are : (U : RegistrationList) → is_type_entry (entry_at U n) ≡ true → members U n value ≡ owned U n value
      members_are U e = ap (λ b. if b then owned U n value else []) e

      owned_kept : first_value V (owned V n value) ≡ None → first_value W (owned W n value) ≡ None
      unfolding owned
      owned_kept e =
          let ns = numbers_of V in
          ap (λ l. first_value W (filter (λ k. is_member n value (entry_at W k)) (range_with_len 0 l))) many
          ∙ first_kept V W n value (λ k f. same_member k (entry_at V k) refl f) (λ k off on. more_by k (entry_at W k) (entry_at V n) refl refl found off on) ns e

      value_kept : value_of V n value ≡ None → value_of W n value ≡ None
      unfolding value_of
      value_kept e =
          ap (first_value W) (members_are W (ap is_type_entry same_entry.0 ∙ seen_type))
          ∙ owned_kept (ap (first_value V) (sym (members_are V seen_type)) ∙ e)

  enumeration_kept : (families : List (List ℕ)) (name : List ℕ) (n : ℕ) → type_of_name (record { view = V; families = families }) name ≡ named.Enumeration n
      → type_of_name (record { view = W; families = families }) name ≡ named.Enumeration n
  unfolding type_of_name
  enumeration_kept families name n e =
      let alone = enumeration_alone (position (bytes_eq name) families) (type_named V name) (enumeration_named V name) n e in
      let is = alone.2 in
      λ i. family_or_host (alone.0 i) (no_type name n is (type_named W name) refl i) (that_one name n is (enumeration_named W name) refl i)

  its_number : (families : List (List ℕ)) (name : List ℕ) (n : ℕ) → type_of_name (record { view = V; families = families }) name ≡ named.Enumeration n
      → enumeration_named V name ≡ Some n
  unfolding type_of_name
  its_number families name n e =
      (enumeration_alone (position (bytes_eq name) families) (type_named V name) (enumeration_named V name) n e).2

  pub keeps_values : KeepsValues V W
  keeps_values = record {
    enumerations = enumeration_kept;
    values = λ families name n e value f. value_kept name n (its_number families name n e) value f;
  }

-- What is found of a family, own and inherited, is a member of a family that is there.
use Rattle.std.specs.Prelude.{◌≡◌, ℕ, suc, Bool, true, false, if◌then◌else◌, cond, List, [], ◌∷◌, ◌++◌, filter, find, option_map, option_and_then, Option, Some, None, IfSome, slice_get}
use Rattle.std.specs.List.{list_any, flat_map}
use Rattle.std.specs.Option.{option_map_or}
use Rattle.std.proofs.Common.{refl}
use Rattle.ang_tree.specs.Stmt.{Every}
use Rattle.ang_names_known.specs.declared.names.ScriptConstructor.{ScriptConstructor}
use Rattle.ang_names_known.specs.declared.names.Default.{Default}
use Rattle.ang_names_known.specs.declared.names.Default.TheVariants as default
use Rattle.ang_names_known.specs.declared.names.Family.{Family}
use Rattle.ang_names_known.specs.declared.names.ScriptMethod.{ScriptMethod}
use Rattle.ang_names_known.specs.Items.{is_empty, each_after}
use Rattle.ang_names_known.specs.Lookup.{Numbered, with_family, families_at, kin_of, FoundMethod, methods_in, methods_of, stands_in, is_named, if_nearest, methods_named, takes_nothing, default_among, written_or, has_constructors, nearest_default, constructors_in, default_of}
use Rattle.ang_check_sound.proofs.Items.{every_joined, every_mapped, every_placed, every_filter}

module _ (fs : List Family) where
  -- ---- a family and those that it has members of

  abbrev IsNumbered : Numbered → Type 0
  IsNumbered f = slice_get fs f.0 ≡ Some f.1

  one_numbered : (n : ℕ) (o : Option Family) (rest : List Numbered) → slice_get fs n ≡ o → Every IsNumbered rest → Every IsNumbered (with_family n o rest)
  one_numbered n None rest e h = h
  one_numbered n (Some f) rest e h = (e, h)

  all_numbered : (ns : List ℕ) → Every IsNumbered (families_at fs ns)
  all_numbered [] = tt
  all_numbered (n ∷ ns) = one_numbered n (slice_get fs n) (families_at fs ns) refl (all_numbered ns)

  kin_by : (o : Option Family) → Every IsNumbered (option_map_or (λ (f : Family). families_at fs f.order) o [])
  kin_by None = tt
  kin_by (Some f) = all_numbered f.order

  kin_numbered : (c : ℕ) → Every IsNumbered (kin_of fs c)
  unfolding kin_of
  kin_numbered c = kin_by (slice_get fs c)

-- ---- methods

-- What holds of each method of each family holds of those that are found.
module _ (fs : List Family) (P : FoundMethod → Type 0)
    (each : (c : ℕ) (f : Family) → slice_get fs c ≡ Some f → (m : ℕ) (y : ScriptMethod) → slice_get f.methods m ≡ Some y → P (record { owner = c; method = y })) where
  abbrev Q : ℕ → ScriptMethod → Type 0
  Q c y = P (record { owner = c; method = y })

  methods_hold : (f : Numbered) → slice_get fs f.0 ≡ Some f.1 → Every P (methods_in f)
  methods_hold f there =
      every_mapped (Q f.0) P (λ (y : ScriptMethod). record { owner = f.0; method = y }) f.1.methods (λ y h. h)
      (every_placed (Q f.0) f.1.methods (each f.0 f.1 there))

  kin_hold : (kin : List Numbered) → Every (IsNumbered fs) kin → Every P (flat_map methods_in kin)
  kin_hold [] k = tt
  kin_hold (f ∷ kin) k = every_joined P (methods_in f) (flat_map methods_in kin) (methods_hold f k.0) (kin_hold kin k.1)

  all_hold : (c : ℕ) → Every P (methods_of fs c)
  unfolding methods_of
  all_hold c = kin_hold (kin_of fs c) (kin_numbered fs c)

  if_nearest_holds : (b : Bool) (x : FoundMethod) → P x → Every P (if b then [] else x ∷ [])
  if_nearest_holds true x h = tt
  if_nearest_holds false x h = (h, tt)

  nearest_hold : (before xs : List FoundMethod) → Every P xs → Every P (each_after if_nearest before xs)
  nearest_hold before [] h = tt
  nearest_hold before (x ∷ xs) h =
      every_joined P (if_nearest before x) (each_after if_nearest (before ++ x ∷ []) xs)
      (if_nearest_holds (list_any (stands_in x.method.slot) before) x h.0) (nearest_hold (before ++ x ∷ []) xs h.1)

  pub named_hold : (c : ℕ) (name : List ℕ) → Every P (methods_named fs c name)
  unfolding methods_named
  named_hold c name =
      nearest_hold [] (filter (is_named name) (methods_of fs c)) (every_filter P (is_named name) (methods_of fs c) (all_hold c))

-- ---- constructors without parameters

-- what holds of the body of the one that is written
abbrev pub IfWritten : (ℕ → Type 0) → Default → Type 0
IfWritten Q default.Missing = Unit {0}
IfWritten Q default.Unwritten = Unit {0}
IfWritten Q (default.Written k) = Q k

-- What holds of the body of each holds of that which makes an object without arguments.
module _ (fs : List Family) (Q : ℕ → Type 0)
    (each : (c : ℕ) (f : Family) → slice_get fs c ≡ Some f → (m : ℕ) (k : ScriptConstructor) → slice_get f.constructors m ≡ Some k → takes_nothing k ≡ true → Q k.body) where
  first_among : (k : ScriptConstructor) (ks : List ScriptConstructor) (b : Bool) → takes_nothing k ≡ b → (takes_nothing k ≡ true → Q k.body) → IfSome (default_among ks) Q
      → IfSome (option_map (λ (x : ScriptConstructor). x.body) (cond b (Some k) (find takes_nothing ks))) Q
  first_among k ks true e h rest = h e
  first_among k ks false e h rest = rest

  among : (ks : List ScriptConstructor) → ((m : ℕ) (k : ScriptConstructor) → slice_get ks m ≡ Some k → takes_nothing k ≡ true → Q k.body) → IfSome (default_among ks) Q
  among [] h = tt
  among (k ∷ ks) h = first_among k ks (takes_nothing k) refl (h 0 k refl) (among ks (λ m x at nothing. h (suc m) x at nothing))

  first_of_kin : (f : Numbered) (kin : List Numbered) (b : Bool) → IfSome (default_among f.1.constructors) Q → IfSome (nearest_default kin) Q
      → IfSome (option_and_then (λ (g : Numbered). default_among g.1.constructors) (cond b (Some f) (find has_constructors kin))) Q
  first_of_kin f kin true h rest = h
  first_of_kin f kin false h rest = rest

  nearest : (kin : List Numbered) → Every (IsNumbered fs) kin → IfSome (nearest_default kin) Q
  nearest [] a = tt
  nearest (f ∷ kin) a = first_of_kin f kin (has_constructors f) (among f.1.constructors (each f.0 f.1 a.0)) (nearest kin a.1)

  own_by : (o : Option ℕ) → IfSome o Q → IfWritten Q (written_or default.Missing o)
  own_by None h = tt
  own_by (Some k) h = h

  written_by : (o : Option ℕ) → IfSome o Q → IfWritten Q (written_or default.Unwritten o)
  written_by None h = tt
  written_by (Some k) h = h

  of_family : (c : ℕ) (o : Option Family) → slice_get fs c ≡ o → IfSome (default_among (constructors_in o)) Q
  of_family c None e = tt
  of_family c (Some f) e = among f.constructors (each c f e)

  pub default_holds : (c : ℕ) → IfWritten Q (default_of fs c)
  unfolding default_of
  default_holds c = by (is_empty (constructors_in (slice_get fs c)))
    where
      by : (b : Bool) → IfWritten Q (if b then written_or default.Unwritten (nearest_default (kin_of fs c)) else written_or default.Missing (default_among (constructors_in (slice_get fs c))))
      by true = written_by (nearest_default (kin_of fs c)) (nearest (kin_of fs c) (kin_numbered fs c))
      by false = own_by (default_among (constructors_in (slice_get fs c))) (of_family c (slice_get fs c) refl)

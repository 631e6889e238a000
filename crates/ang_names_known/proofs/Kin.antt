-- What is found in the families of some numbers, by the first of them and the others.
use Rattle.std.specs.Prelude.{ℕ, ◌≡◌, Bool, true, false, cond, find, not, ◌||◌, ◌==◌, List, [], ◌∷◌, length, map, bytes_eq, Option, Some, None, option_map, option_and_then, if◌then◌else◌}
use Rattle.std.specs.List.{list_any}
use Rattle.std.specs.Option.{option_or, option_map_or}
use Rattle.std.proofs.Common.{refl, sym}
use Rattle.std.proofs.Math.Dec.{eqb-suc-zero}
use Rattle.ang_view.proofs.Lists.{length-map}
use Rattle.ang_names_known.specs.declared.names.Family.{Family}
use Rattle.ang_names_known.specs.declared.names.Field.{Field}
use Rattle.ang_names_known.specs.Items.{is_empty}
use Rattle.ang_names_known.specs.Lookup.{Numbered, with_family, field_of, fields_in, first_field, declares_method, constructors_in, default_among, has_constructors, nearest_default}

pub first_field_with : (name : List ℕ) (n : ℕ) (o : Option Family) (rest : List Numbered)
    → first_field name (with_family n o rest) ≡ option_or (option_map (field_of n) (find (λ (x : Field). bytes_eq x.name name) (fields_in o))) (first_field name rest)
first_field_with name n None rest = refl
first_field_with name n (Some f) rest = refl

pub empty_is : {A : Type 0} (xs : List A) → is_empty xs ≡ (length xs == 0)
empty_is [] = refl
empty_is (x ∷ xs) = sym (eqb-suc-zero (length xs))

pub any_method_with : (name : List ℕ) (n : ℕ) (o : Option Family) (rest : List Numbered)
    → list_any (declares_method name) (with_family n o rest)
    ≡ (option_map_or (λ f. declares_method name (n, f)) o false || list_any (declares_method name) rest)
any_method_with name n None rest = refl
any_method_with name n (Some f) rest = refl

-- a family that is passed over, and one that is taken
test_turned : (b : Bool) (f : Numbered) (rest : List Numbered)
    → option_and_then (λ (g : Numbered). default_among g.1.constructors) (cond (not b) (Some f) (find has_constructors rest))
    ≡ (if b then nearest_default rest else default_among f.1.constructors)
test_turned true f rest = refl
test_turned false f rest = refl

pub default_with : (n : ℕ) (o : Option Family) (rest : List Numbered)
    → nearest_default (with_family n o rest) ≡ (if is_empty (constructors_in o) then nearest_default rest else default_among (constructors_in o))
default_with n None rest = refl
default_with n (Some f) rest = test_turned (is_empty f.constructors) (n, f) rest

pub number_of_names : (fs : List Family) → length (map (λ (f : Family). f.name) fs) ≡ length fs
number_of_names fs = length-map (λ (f : Family). f.name) fs

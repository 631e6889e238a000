-- Classes that are joined from their parts, one by one.
use Rattle.std.proofs.Common.{◌≡◌, ℕ, ◌+◌, suc, List, [], ◌∷◌, ◌++◌, append_assoc, length, map as list_map, refl, sym, ap, ◌∙◌, add-one, arith}
use Rattle.std.proofs.lemmas.List.{append-nil, map-append}
use Rattle.ang_typed.specs.declared.program.TypedClass.{TypedClass}
use Rattle.ang_vm_stack.specs.declared.table.ClassCode.{ClassCode}
use Rattle.ang_engine_modules.specs.declared.classes.ClassParts.{ClassParts}
use Rattle.ang_engine_modules.specs.Joining.{Parts, class_with, classes_with, parts_in, parts_of}
use Rattle.ang_engine_modules.specs.Loaded.{class_of}
use Rattle.ang_engine_modules.specs.Trees.{ScriptClass, classes_from, script_class}

-- with their own parts they are the classes of a module
pub with_own : (m : ℕ) (all : List TypedClass) (n : ℕ) (cs : List TypedClass) → classes_with n cs (list_map (parts_of m all) cs) ≡ classes_from m all n cs
with_own m all n [] = refl
with_own m all n (c ∷ cs) = ap (λ xs. script_class m all n c ∷ xs) (with_own m all (suc n) cs)

no_parts : (n : ℕ) (cs : List TypedClass) → classes_with n cs [] ≡ []
no_parts n [] = refl
no_parts n (c ∷ cs) = refl

-- no class is left
pub no_class_left : (was all : List ScriptClass) (n : ℕ) (cs : List TypedClass) (ps : List Parts) → length cs ≡ 0 → was ++ classes_with n cs ps ≡ all → was ≡ all
no_class_left was all n [] ps e h = sym (append-nil was) ∙ h
no_class_left was all n (c ∷ cs) ps e h = absurd (omega arith)

-- no parts are left
pub no_parts_left : (was all : List ScriptClass) (n : ℕ) (cs : List TypedClass) (ps : List ClassParts) → length ps ≡ 0 → was ++ classes_with n cs (list_map parts_in ps) ≡ all → was ≡ all
no_parts_left was all n cs [] e h = sym (append-nil was) ∙ ap (λ xs. was ++ xs) (sym (no_parts n cs)) ∙ h
no_parts_left was all n cs (p ∷ ps) e h = absurd (omega arith)

-- one class more is joined
pub one_joined : (n : ℕ) (c : TypedClass) (p : ClassParts) (before left : List TypedClass) (parts rest : List ClassParts) (was now : List ClassCode) (code : ClassCode) (all : List ScriptClass)
    → list_map class_of was ++ classes_with n before (list_map parts_in parts) ≡ all → before ≡ c ∷ left → parts ≡ p ∷ rest
    → class_of code ≡ class_with n c (parts_in p) → now ≡ was ++ code ∷ []
    → list_map class_of now ++ classes_with (n + 1) left (list_map parts_in rest) ≡ all
one_joined n c p before left parts rest was now code all h taken picked is grown =
    ap (λ xs. list_map class_of xs ++ classes_with (n + 1) left (list_map parts_in rest)) grown
    ∙ ap (λ xs. xs ++ classes_with (n + 1) left (list_map parts_in rest)) (map-append class_of was (code ∷ []))
    ∙ append_assoc (list_map class_of was) (class_of code ∷ []) (classes_with (n + 1) left (list_map parts_in rest))
    ∙ ap (λ x. list_map class_of was ++ x ∷ classes_with (n + 1) left (list_map parts_in rest)) is
    ∙ ap (λ k. list_map class_of was ++ class_with n c (parts_in p) ∷ classes_with k left (list_map parts_in rest)) (add-one n)
    ∙ ap (λ xs. list_map class_of was ++ classes_with n xs (parts_in p ∷ list_map parts_in rest)) (sym taken)
    ∙ ap (λ xs. list_map class_of was ++ classes_with n before (list_map parts_in xs)) (sym picked)
    ∙ h

counted : (n m b l : ℕ) → n + b ≡ m → b ≡ suc l → (n + 1) + l ≡ m
counted n m b l h e = omega arith

-- one class fewer is left
pub one_less : (n m : ℕ) (c : TypedClass) (before left : List TypedClass) → n + length before ≡ m → before ≡ c ∷ left → (n + 1) + length left ≡ m
one_less n m c before left h taken = counted n m (length before) (length left) h (ap length taken)

-- none is left after all
pub none_over : (n m l : ℕ) → n + l ≡ m → n ≡ m → l ≡ 0
none_over n m l h e = omega arith

-- What makes an object of a type gives one of that type.
use Rattle.std.specs.Prelude.{◌≡◌, ℕ, ◌+◌, Bool, true, false, if◌then◌else◌, List, [], ◌∷◌, map, Option, Some, None, IfOk, slice_get}
use Rattle.std.proofs.Common.{refl, sym, subst, arith}
use Rattle.ang_kinds.specs.declared.error.ErrorKind.{ErrorKind}
use Rattle.ang_kinds.specs.declared.error.ErrorKind.TheVariants as kind
use Rattle.ang_kinds.specs.declared.place.Place.{Place}
use Rattle.ang_lex.specs.declared.token.Token.{Token}
use Rattle.ang_lex.specs.Text.{text_of}
use Rattle.ang_tree.specs.Stmt.{Every}
use Rattle.ang_types.specs.declared.arg_type.ArgType.{ArgType}
use Rattle.ang_types.specs.declared.arg_type.ArgType.TheVariants as type
use Rattle.ang_types.specs.declared.asks.Asks.{Asks}
use Rattle.ang_types.specs.declared.asks.Asks.TheVariants as asks
use Rattle.ang_types.specs.declared.candidate.Pick.{Pick}
use Rattle.ang_types.specs.declared.candidate.Pick.TheVariants as pick
use Rattle.ang_types.specs.Best.{best_of}
use Rattle.ang_types.specs.Ranks.{Ancestors}
use Rattle.ang_names_known.specs.declared.names.Default.{Default}
use Rattle.ang_names_known.specs.declared.names.Default.TheVariants as default
use Rattle.ang_names_known.specs.declared.names.Family.{Family}
use Rattle.ang_names_known.specs.Items.{is_empty}
use Rattle.ang_names_known.specs.Lookup.{default_of, may_use}
use Rattle.ang_names_known.specs.Spaces.{family_type, family_of_type}
use Rattle.ang_check_contest.specs.declared.host.Wanted.TheVariants as wanted
use Rattle.ang_check_contest.specs.Host.{host_where}
use Rattle.ang_check_operators.specs.Operands.{Operand}
use Rattle.ang_check_operators.specs.Refusals.{Typing}
use Rattle.ang_check_context.specs.declared.scope.LocalVariable.{LocalVariable}
use Rattle.ang_check_context.specs.Scope.{BodyContext, scope_of, family_of, is_there}
use Rattle.ang_check_context.specs.Access.{if_in_reach}
use Rattle.ang_check_context.specs.Operands.{types_of}
use Rattle.ang_check_typing.specs.Calls.{arguments_for, call_with, called_use, called_own, made_by, default_typing, made_typing}
use Rattle.ang_check_uses.specs.declared.uses.Callable.{Callable}
use Rattle.ang_check_uses.specs.declared.uses.Called.{Called}
use Rattle.ang_check_uses.specs.declared.uses.Called.TheVariants as calls
use Rattle.ang_check_uses.specs.declared.uses.Reach.{Reach}
use Rattle.ang_check_uses.specs.declared.uses.Resolution.{Resolution}
use Rattle.ang_check_uses.specs.declared.uses.Resolution.TheVariants as resolution
use Rattle.ang_check_uses.specs.Uses.{maker, factories_of, constructor_of, default_maker, makers_in, makers_for, makers_of, candidates_of, called_at, picked, best_of_those, resolution_of}
use Rattle.ang_check_sound.proofs.Judged.{holds, either_holds, any}
use Rattle.ang_check_sound.proofs.Items.{every_at}
use Rattle.ang_check_laws.proofs.Objects.{number_of}

-- what is called gives this type
abbrev pub IsResult : ArgType → Resolution → Type 0
IsResult ty (resolution.Variable x t read_only) = Unit {0}
IsResult ty (resolution.Property h) = Unit {0}
IsResult ty (resolution.Call c) = c.result ≡ ty
IsResult ty (resolution.Type k) = Unit {0}
IsResult ty (resolution.Enumeration k) = Unit {0}
IsResult ty (resolution.Value v) = Unit {0}
IsResult ty (resolution.Refused why) = Unit {0}

all_of : {A B : Type 0} (P : B → Type 0) (f : A → B) (xs : List A) → ((a : A) → P (f a)) → Every P (map f xs)
all_of P f [] g = tt
all_of P f (x ∷ xs) g = (g x, all_of P f xs g)

module _ (ty : ArgType) where
  abbrev Makes : Callable → Type 0
  Makes c = c.result ≡ ty

  at_result : (cs : List Callable) (i : ℕ) (c : Option Callable) → slice_get cs i ≡ c → Every Makes cs → IsResult ty (called_at c)
  at_result cs i None e all = tt
  at_result cs i (Some c) e all = every_at Makes cs i c all e

  picked_result : (unviable : ErrorKind) (cs : List Callable) (p : Pick) → Every Makes cs → IsResult ty (picked unviable cs p)
  picked_result unviable cs pick.NoViable all = tt
  picked_result unviable cs pick.Ambiguous all = tt
  picked_result unviable cs (pick.One i) all = at_result cs i (slice_get cs i) refl all

  those_result : (ancestors : Ancestors) (unviable : ErrorKind) (cs : List Callable) (args : List ArgType) → Every (λ (c : Callable). c.result ≡ ty) cs
      → IsResult ty (best_of_those ancestors unviable cs args)
  unfolding best_of_those
  those_result ancestors unviable cs args all = picked_result unviable cs (best_of ancestors (candidates_of cs) args) all

  -- in a body
  module _ (s : BodyContext) where
    abbrev Is : Operand → Type 0
    Is a = a.ty ≡ ty

    call_result : (place : Place) (c : Callable) (operands : List Operand) → c.result ≡ ty → IfOk (call_with s place c operands) Is
    call_result place c operands h = holds (λ xs. Unit {0}) Is (arguments_for s.ancestors c.candidate.params operands) _ (any _) (λ xs k. h)

    reached_result : (x : Token) (r : Option Reach) (next : Typing Operand) → IfOk next Is → IfOk (if_in_reach s x r next) Is
    reached_result x None next h = h
    reached_result x (Some r) next h = either_holds Is (may_use s.names.families (family_of s.within) r.owner r.access) next _ h tt

    use_result : (place : Place) (x : Token) (a : Asks) (there : Bool) (operands : List Operand) (r : Resolution) → IsResult ty r
        → IfOk (called_use s place x a there operands r) Is
    use_result place x a there operands (resolution.Call c) h = reached_result x c.reach (call_with s place c operands) (call_result place c operands h)
    use_result place x a there operands (resolution.Variable v t read_only) h = tt
    use_result place x a there operands (resolution.Property p) h = tt
    use_result place x a there operands (resolution.Type k) h = tt
    use_result place x a there operands (resolution.Enumeration k) h = tt
    use_result place x a there operands (resolution.Value v) h = tt
    use_result place x a there operands (resolution.Refused why) h = tt

    own_use_result : (place : Place) (x : Token) (operands : List Operand) (r : Resolution) → IsResult ty r → IfOk (called_own s place x operands r) Is
    own_use_result place x operands (resolution.Call c) h = reached_result x c.reach (call_with s place c operands) (call_result place c operands h)
    own_use_result place x operands (resolution.Variable v t read_only) h = tt
    own_use_result place x operands (resolution.Property p) h = tt
    own_use_result place x operands (resolution.Type k) h = tt
    own_use_result place x operands (resolution.Enumeration k) h = tt
    own_use_result place x operands (resolution.Value v) h = tt
    own_use_result place x operands (resolution.Refused why) h = tt

abbrev Of : ArgType → Callable → Type 0
Of ty c = c.result ≡ ty

default_result : (c : ℕ) (d : Default) → Every (Of (type.Object (family_type c) false)) (default_maker c d)
default_result c default.Missing = tt
default_result c default.Unwritten = (refl, tt)
default_result c (default.Written k) = (refl, tt)

of_class : (ty : ArgType) (b e : Bool) (xs ys : List Callable) → Every (Of ty) xs → Every (Of ty) ys → Every (Of ty) (if b then (if e then xs else ys) else [])
of_class ty false e xs ys h k = tt
of_class ty true true xs ys h k = h
of_class ty true false xs ys h k = k

of_family : (fs : List Family) (c : ℕ) (f : Option Family) → Every (Of (type.Object (family_type c) false)) (makers_in fs c f)
of_family fs c None = tt
of_family fs c (Some f) =
    of_class (type.Object (family_type c) false) f.is_class (is_empty f.constructors) (default_maker c (default_of fs c)) (map (constructor_of c) f.constructors)
    (default_result c (default_of fs c)) (all_of (Of (type.Object (family_type c) false)) (constructor_of c) f.constructors (λ k. refl))

module _ (s : BodyContext) where
  factories_result : (n : ℕ) → Every (Of (type.Object n false)) (factories_of s.view n)
  factories_result n = all_of (Of (type.Object n false)) (maker n) (host_where (wanted.Factory n) s.view) (λ f. refl)

  makers_by : (n : ℕ) (c : Option ℕ) → family_of_type n ≡ c → Every (Of (type.Object n false)) (makers_for (scope_of s) n c)
  makers_by n None e = factories_result n
  makers_by n (Some c) e =
      subst (λ k. Every (Of (type.Object k false)) (makers_in s.names.families c (slice_get s.names.families c))) (sym (number_of n c e).1)
      (of_family s.names.families c (slice_get s.names.families c))

  makers_result : (n : ℕ) → Every (Of (type.Object n false)) (makers_of (scope_of s) n)
  unfolding makers_of
  makers_result n = makers_by n (family_of_type n) refl

  default_by_result : (ps : List LocalVariable) (x : Token) (n : ℕ) (d : Option ℕ)
      → IfOk (made_by s ps x kind.NoDefault n (asks.Default n) [] d) (λ a. a.ty ≡ type.Object n false)
  default_by_result ps x n None =
      use_result (type.Object n false) s x.place x (asks.Default n) (is_there s ps (text_of s.text x)) []
      (resolution_of (scope_of s) (text_of s.text x) (asks.Default n)) (those_result (type.Object n false) s.ancestors kind.NoDefault (factories_of s.view n) [] (factories_result n))
  default_by_result ps x n (Some c) =
      own_use_result (type.Object n false) s x.place x [] _ (those_result (type.Object n false) s.ancestors kind.NoDefault (makers_of (scope_of s) n) [] (makers_result n))

  pub default_is : (ps : List LocalVariable) (x : Token) (n : ℕ) → IfOk (default_typing s ps x n) (λ a. a.ty ≡ type.Object n false)
  unfolding default_typing
  default_is ps x n = default_by_result ps x n (family_of_type n)

  made_by_result : (ps : List LocalVariable) (x : Token) (n : ℕ) (operands : List Operand) (d : Option ℕ)
      → IfOk (made_by s ps x kind.NoMatch n (asks.Make n (types_of operands)) operands d) (λ a. a.ty ≡ type.Object n false)
  made_by_result ps x n operands None =
      use_result (type.Object n false) s x.place x (asks.Make n (types_of operands)) (is_there s ps (text_of s.text x)) operands
      (resolution_of (scope_of s) (text_of s.text x) (asks.Make n (types_of operands)))
      (those_result (type.Object n false) s.ancestors kind.NoMatch (factories_of s.view n) (types_of operands) (factories_result n))
  made_by_result ps x n operands (Some c) =
      own_use_result (type.Object n false) s x.place x operands _
      (those_result (type.Object n false) s.ancestors kind.NoMatch (makers_of (scope_of s) n) (types_of operands) (makers_result n))

  pub made_is : (ps : List LocalVariable) (x : Token) (n : ℕ) (operands : List Operand) → IfOk (made_typing s ps x n operands) (λ a. a.ty ≡ type.Object n false)
  unfolding made_typing
  made_is ps x n operands = made_by_result ps x n operands (family_of_type n)

-- ---- of which class

-- what is called makes an object of this class, if it makes one of a class
abbrev pub IsOfClass : ℕ → Called → Type 0
IsOfClass d (calls.Script f) = Unit {0}
IsOfClass d (calls.Host h) = Unit {0}
IsOfClass d (calls.Makes c k) = c ≡ d

abbrev pub IsMade : ℕ → Resolution → Type 0
IsMade d (resolution.Variable x t read_only) = Unit {0}
IsMade d (resolution.Property h) = Unit {0}
IsMade d (resolution.Call c) = IsOfClass d c.called
IsMade d (resolution.Type k) = Unit {0}
IsMade d (resolution.Enumeration k) = Unit {0}
IsMade d (resolution.Value v) = Unit {0}
IsMade d (resolution.Refused why) = Unit {0}

module _ (d : ℕ) where
  abbrev MakesIt : Callable → Type 0
  MakesIt c = IsOfClass d c.called

  at_made : (cs : List Callable) (i : ℕ) (c : Option Callable) → slice_get cs i ≡ c → Every MakesIt cs → IsMade d (called_at c)
  at_made cs i None e all = tt
  at_made cs i (Some c) e all = every_at MakesIt cs i c all e

  picked_made : (unviable : ErrorKind) (cs : List Callable) (p : Pick) → Every MakesIt cs → IsMade d (picked unviable cs p)
  picked_made unviable cs pick.NoViable all = tt
  picked_made unviable cs pick.Ambiguous all = tt
  picked_made unviable cs (pick.One i) all = at_made cs i (slice_get cs i) refl all

  pub those_made : (ancestors : Ancestors) (unviable : ErrorKind) (cs : List Callable) (args : List ArgType) → Every (λ (c : Callable). IsOfClass d c.called) cs
      → IsMade d (best_of_those ancestors unviable cs args)
  unfolding best_of_those
  those_made ancestors unviable cs args all = picked_made unviable cs (best_of ancestors (candidates_of cs) args) all

  default_made_so : (c : Default) → Every MakesIt (default_maker d c)
  default_made_so default.Missing = tt
  default_made_so default.Unwritten = (refl, tt)
  default_made_so (default.Written k) = (refl, tt)

  class_made : (b e : Bool) (xs ys : List Callable) → Every MakesIt xs → Every MakesIt ys → Every MakesIt (if b then (if e then xs else ys) else [])
  class_made false e xs ys h k = tt
  class_made true true xs ys h k = h
  class_made true false xs ys h k = k

  family_made : (fs : List Family) (f : Option Family) → Every MakesIt (makers_in fs d f)
  family_made fs None = tt
  family_made fs (Some f) =
      class_made f.is_class (is_empty f.constructors) (default_maker d (default_of fs d)) (map (constructor_of d) f.constructors) (default_made_so (default_of fs d))
      (all_of MakesIt (constructor_of d) f.constructors (λ k. refl))

  makers_made : (s : BodyContext) (n : ℕ) (c : Option ℕ) → n ≡ family_type d → family_of_type n ≡ c → Every MakesIt (makers_for (scope_of s) n c)
  makers_made s n None is e = all_of MakesIt (maker n) (host_where (wanted.Factory n) s.view) (λ f. tt)
  makers_made s n (Some c) is e =
      let same : c ≡ d = (let number : n ≡ 1024 + c = (number_of n c e).1 in let of : n ≡ 1024 + d = is in omega (arith, number, of)) in
      subst (λ k. Every MakesIt (makers_in s.names.families k (slice_get s.names.families k))) (sym same)
      (family_made s.names.families (slice_get s.names.families d))

  pub class_makers : (s : BodyContext) → Every (λ (c : Callable). IsOfClass d c.called) (makers_of (scope_of s) (family_type d))
  unfolding makers_of
  class_makers s = makers_made s (family_type d) (family_of_type (family_type d)) refl refl

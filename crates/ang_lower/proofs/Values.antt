-- A lowered expression does what its source does, with as many locals as there were.
use Rattle.std.proofs.Common.{◌≡◌, ℕ, suc, ◌+◌, ◌-◌, List, [], ◌∷◌, length, refl, sym, ap, ◌∙◌, arith, Option, Some, None}
use Rattle.std.specs.Prelude.{true, false}
use Rattle.ang_kinds.specs.declared.primitive.Primitive.{Primitive}
use Rattle.ang_types.specs.declared.arg_type.ArgType.{ArgType}
use Rattle.ang_typed.specs.declared.expression.TypedVariable.{TypedVariable}
use Rattle.ang_typed.specs.declared.expression.TypedVariable.TheVariants as variable
use Rattle.ang_typed.specs.declared.expression.TypedMember.{TypedMember}
use Rattle.ang_typed.specs.declared.expression.TypedMember.TheVariants as member
use Rattle.ang_typed.specs.declared.expression.TypedCallee as typed
use Rattle.ang_typed.specs.declared.expression.TypedCallee.TheVariants as callee
use Rattle.ang_typed.specs.declared.program.TypedParameter.{TypedParameter}
use Rattle.ang_typed.specs.Typed as t
use Rattle.ang_meaning.specs.declared.slot.Slot.{Slot}
use Rattle.ang_meaning.specs.declared.slot.Slot.TheVariants.{Bits}
use Rattle.ang_meaning.specs.declared.class.ValueKind.{ValueKind}
use Rattle.ang_meaning.specs.declared.class.ValueKind.TheVariants.{Number, Handle}
use Rattle.ang_meaning.specs.declared.operation.Update.{Update}
use Rattle.ang_meaning.specs.declared.operation.Operation.{Operation}
use Rattle.ang_meaning.specs.declared.operation.Operation.TheVariants.{Binary, Compare, Convert, Negate, Complement, Not, Same, GlobalGet, GlobalSet, GlobalChange, Ask, Read, Write, Alter, Make, FieldGet, FieldSet, FieldChange, Cast}
use Rattle.ang_meaning.specs.declared.routine.Callee.TheVariants.{Own}
use Rattle.ang_meaning.specs.declared.routine.Target.{Target}
use Rattle.ang_meaning.specs.Numbers.{truth, converted, negated, complemented, denied}
use Rattle.ang_kinds.specs.Primitives.{is_signed}
use Rattle.ang_meaning.specs.World.{World}
use Rattle.ang_meaning.specs.Environment.{Environment, default_of}
use Rattle.ang_meaning.specs.Hosts.{Fine}
use Rattle.ang_meaning.specs.Perform.{perform}
use Rattle.ang_meaning.specs.Results.{Evaluated, Gave, Ready, local_at, loaded, performed, applied, assigned, altered}
use Rattle.ang_meaning.specs.Bodies.{Callees}
use Rattle.ang_source.specs.Meaning.{callee_of, one, two, this_of, read_variable, read_member, stored, member_stored, changed_by, member_changed, evaluate, evaluate_all, evaluate_argument, begin_local, evaluate_or, kind_of, compound_of, step_of, brought_to}
use Rattle.ang_source.specs.Meaning as source
use Rattle.ang_source.specs.Sound.{Module, parameters_of, Sound, SoundArguments, SoundValues, SoundOption, argument_count}
use Rattle.ang_lower.specs.ExprTree as c
use Rattle.ang_lower.specs.LoweredExpr as low
use Rattle.ang_lower.proofs.PlainMeaning.{eval, eval_all}
use Rattle.ang_lower.proofs.Ends.{SameEval, SameAll, SameFrom, loaded_keeps, applied_keeps, applied_same, assigned_keeps, altered_keeps, chosen_same, then_rest_same, called_same}

-- ---- the targets of a call

spot_is : (ls : List Slot) (x : TypedVariable) → low.spot_of (length ls) x ≡ source.spot_of ls x
spot_is ls (variable.Local i) = refl
spot_is ls (variable.Global g) = refl
spot_is ls (variable.Property h) = refl
spot_is ls (variable.Field i) = refl

targets_are : (ls : List Slot) (args : t.Args) (found : List Target) → low.targets_behind (length ls) args found ≡ source.targets_behind ls args found
targets_are ls t.none found = refl
targets_are ls (t.more (t.by_value ty e) args) found = targets_are ls args found
targets_are ls (t.more (t.out x from to) args) found =
    ap (λ s. low.targets_behind (length ls) args (record { spot = s; to = brought_to to } ∷ found)) (spot_is ls x)
    ∙ targets_are ls args (record { spot = source.spot_of ls x; to = brought_to to } ∷ found)

targets_at : (n : ℕ) (ls : List Slot) (args : t.Args) → length ls ≡ n → low.targets_of n args ≡ source.targets_of ls args
targets_at n ls args l = ap (λ i. low.targets_of i args) (sym l) ∙ targets_are ls args []

-- ---- arguments

-- each value among the arguments is sound
abbrev pub EachSound : Module → ℕ → t.Args → Type 0
EachSound M n t.none = Unit {0}
EachSound M n (t.more (t.by_value ty e) args) = Sound M n e × EachSound M n args
EachSound M n (t.more (t.out x from to) args) = EachSound M n args

pub each_argument : (M : Module) (n : ℕ) (ps : List TypedParameter) (args : t.Args) → SoundArguments M n ps args → EachSound M n args
each_argument M n [] t.none h = tt
each_argument M n [] (t.more a args) h = absurd h
each_argument M n (p ∷ ps) t.none h = absurd h
each_argument M n (p ∷ ps) (t.more (t.by_value ty e) args) h = (h.0.1, each_argument M n ps args h.1)
each_argument M n (p ∷ ps) (t.more (t.out x from to) args) h = each_argument M n ps args h.1

pub each_value : (M : Module) (n : ℕ) (args : t.Args) → SoundValues M n args → EachSound M n args
each_value M n t.none h = tt
each_value M n (t.more (t.by_value ty e) args) h = (h.0, each_value M n args h.1)
each_value M n (t.more (t.out x from to) args) h = absurd h.0

pub as_many : (M : Module) (n : ℕ) (ps : List TypedParameter) (args : t.Args) → SoundArguments M n ps args → argument_count args ≡ length ps
as_many M n [] t.none h = refl
as_many M n [] (t.more a args) h = absurd h
as_many M n (p ∷ ps) t.none h = absurd h
as_many M n (p ∷ ps) (t.more a args) h = ap suc (as_many M n ps args h.1)

-- ---- operands

one_same : (n : ℕ) (x y : Evaluated) → SameEval n x y → SameAll n 1 (one x) (one y)
one_same n x y h = then_rest_same n 1 [] x y (λ v ls t w. Ready (v ∷ []) ls t w) (λ v ls t w. Ready (v ∷ []) ls t w) h (λ v ls t w l. record { same = refl; keeps = (l, refl) })

two_same : (n : ℕ) (x y : Evaluated) (go go' : List Slot → ℕ → World → Evaluated) → SameEval n x y → SameFrom n go go' → SameAll n 2 (two x go) (two y go')
two_same n x y go go' h a =
    then_rest_same n 2 [] x y _ _ h
    (λ v ls t w l. then_rest_same n 2 (v ∷ []) (go ls t w) (go' ls t w) (λ u ls' t' w'. Ready (u ∷ v ∷ []) ls' t' w') (λ u ls' t' w'. Ready (u ∷ v ∷ []) ls' t' w') (a ls t w l)
    (λ u ls' t' w' l'. record { same = refl; keeps = (l', refl) }))

-- ---- operations on one number

-- the operation turns each number x into f x
abbrev Gives : Environment → ℕ → (ℕ → ℕ) → Operation → Type 0
Gives z m f o = (x : ℕ) (w : World) → perform z m o (Bits x ∷ []) w ≡ Fine (Bits (f x)) w

converts : (z : Environment) (m : ℕ) (to : Primitive) → Gives z m (converted to) (Convert to)
unfolding perform
converts z m to x w = refl

negates : (z : Environment) (m : ℕ) (ty : Primitive) → Gives z m (negated ty) (Negate ty)
unfolding perform
negates z m ty x w = refl

complements : (z : Environment) (m : ℕ) (ty : Primitive) → Gives z m (complemented ty) (Complement ty)
unfolding perform
complements z m ty x w = refl

denies : (z : Environment) (m : ℕ) → Gives z m denied Not
unfolding perform
denies z m x w = refl

-- ---- variables

module _ (z : Environment) (m : ℕ) (k k' : Callees) where
  local_same : (n i : ℕ) (ls : List Slot) (t : ℕ) (w : World) → length ls ≡ n → SameEval n (eval z m k (c.local (n - suc i)) ls t w) (loaded (local_at ls (length ls - suc i)) ls t w)
  local_same n i ls t w l = record {
    same = ap (λ j. loaded (local_at ls (j - suc i)) ls t w) (sym l);
    keeps = loaded_keeps n (local_at ls (length ls - suc i)) ls t w l;
  }

  this_same : (n : ℕ) (ls : List Slot) (t : ℕ) (w : World) → length ls ≡ n → SameEval n (eval z m k (low.this_at n) ls t w) (this_of ls t w)
  this_same n ls t w l = local_same n 0 ls t w l

  unary_same : (n : ℕ) (o : Operation) (e : c.Expr) (y : Evaluated) (ls : List Slot) (t : ℕ) (w : World) → SameEval n (eval z m k e ls t w) y
      → SameEval n (eval z m k (low.unary o e) ls t w) (applied (perform z m o) (one y))
  unary_same n o e y ls t w h = applied_same n 1 (perform z m o) (one (eval z m k e ls t w)) (one y) (one_same n (eval z m k e ls t w) y h)

  binary_same : (n : ℕ) (o : Operation) (a b : c.Expr) (y : Evaluated) (go : List Slot → ℕ → World → Evaluated) (ls : List Slot) (t : ℕ) (w : World)
      → SameEval n (eval z m k a ls t w) y → SameFrom n (eval z m k b) go → SameEval n (eval z m k (low.binary o a b) ls t w) (applied (perform z m o) (two y go))
  binary_same n o a b y go ls t w h f = applied_same n 2 (perform z m o) _ (two y go) (two_same n (eval z m k a ls t w) y (eval z m k b) go h f)

  nullary_same : (n : ℕ) (o : Operation) (ls : List Slot) (t : ℕ) (w : World) → length ls ≡ n → SameEval n (eval z m k (c.apply o c.none) ls t w) (applied (perform z m o) (Ready [] ls t w))
  nullary_same n o ls t w l = record { same = refl; keeps = applied_keeps n 0 (perform z m o) (Ready [] ls t w) (l, refl) }

  read_same : (n : ℕ) (x : TypedVariable) (ls : List Slot) (t : ℕ) (w : World) → length ls ≡ n → SameEval n (eval z m k (low.read n x) ls t w) (read_variable z m x ls t w)
  read_same n (variable.Local i) ls t w l = local_same n i ls t w l
  read_same n (variable.Global g) ls t w l = nullary_same n (GlobalGet g) ls t w l
  read_same n (variable.Property h) ls t w l = nullary_same n (Read h.entity) ls t w l
  read_same n (variable.Field i) ls t w l = unary_same n (FieldGet i) (low.this_at n) (this_of ls t w) ls t w (this_same n ls t w l)

  -- an operation on a number is the number that it gives
  folded_is : (f : ℕ → ℕ) (o : Operation) → Gives z m f o → (e : c.Expr) (ls : List Slot) (t : ℕ) (w : World) → eval z m k (low.folded f o e) ls t w ≡ eval z m k (low.unary o e) ls t w
  folded_is f o g (c.number x) ls t w = ap (λ d. performed d (Bits x ∷ []) ls t) (sym (g x w))
  folded_is f o g c.null ls t w = refl
  folded_is f o g (c.local i) ls t w = refl
  folded_is f o g (c.assign i a) ls t w = refl
  folded_is f o g (c.change i by a) ls t w = refl
  folded_is f o g (c.apply q args) ls t w = refl
  folded_is f o g (c.call q args outs) ls t w = refl
  folded_is f o g (c.choose a b d) ls t w = refl

  folded_same : (n : ℕ) (f : ℕ → ℕ) (o : Operation) → Gives z m f o → (e : c.Expr) (y : Evaluated) (ls : List Slot) (t : ℕ) (w : World) → SameEval n (eval z m k e ls t w) y
      → SameEval n (eval z m k (low.folded f o e) ls t w) (applied (perform z m o) (one y))
  folded_same n f o g e y ls t w h =
      let u = unary_same n o e y ls t w h in
      record { same = folded_is f o g e ls t w ∙ u.same; keeps = u.keeps }

  pub stored_same : (n : ℕ) (x : TypedVariable) (e : c.Expr) (y : Evaluated) (ls : List Slot) (t : ℕ) (w : World) → length ls ≡ n → SameEval n (eval z m k e ls t w) y
      → SameEval n (eval z m k (low.stored n x e) ls t w) (stored z m x ls y)
  stored_same n (variable.Local i) e y ls t w l h = record {
    same = ap (λ j. assigned (j - suc i) (eval z m k e ls t w)) (sym l) ∙ ap (λ a. assigned (length ls - suc i) a) h.same;
    keeps = assigned_keeps n (length ls - suc i) y h.keeps;
  }
  stored_same n (variable.Global g) e y ls t w l h = unary_same n (GlobalSet g) e y ls t w h
  stored_same n (variable.Property p) e y ls t w l h = unary_same n (Write p.entity) e y ls t w h
  stored_same n (variable.Field i) e y ls t w l h = binary_same n (FieldSet i) e (low.this_at n) y this_of ls t w h (λ ls' t' w' l'. this_same n ls' t' w' l')

  changed_same : (n : ℕ) (x : TypedVariable) (by : Update) (e : c.Expr) (y : Evaluated) (ls : List Slot) (t : ℕ) (w : World) → length ls ≡ n → SameEval n (eval z m k e ls t w) y
      → SameEval n (eval z m k (low.changed n x by e) ls t w) (changed_by z m x ls by y)
  changed_same n (variable.Local i) by e y ls t w l h = record {
    same = ap (λ j. altered (j - suc i) by (eval z m k e ls t w)) (sym l) ∙ ap (λ a. altered (length ls - suc i) by a) h.same;
    keeps = altered_keeps n (length ls - suc i) by y h.keeps;
  }
  changed_same n (variable.Global g) by e y ls t w l h = unary_same n (GlobalChange by g) e y ls t w h
  changed_same n (variable.Property p) by e y ls t w l h = unary_same n (Alter p.entity by) e y ls t w h
  changed_same n (variable.Field i) by e y ls t w l h = binary_same n (FieldChange by i) e (low.this_at n) y this_of ls t w h (λ ls' t' w' l'. this_same n ls' t' w' l')

  -- members of objects
  read_member_same : (n : ℕ) (a : TypedMember) (o : c.Expr) (y : Evaluated) (ls : List Slot) (t : ℕ) (w : World) → SameEval n (eval z m k o ls t w) y
      → SameEval n (eval z m k (low.unary (low.reading a) o) ls t w) (read_member z m a y)
  read_member_same n (member.Field i) o y ls t w h = unary_same n (FieldGet i) o y ls t w h
  read_member_same n (member.Property p) o y ls t w h = unary_same n (Read p.entity) o y ls t w h

  member_stored_same : (n : ℕ) (a : TypedMember) (e o : c.Expr) (y : Evaluated) (go : List Slot → ℕ → World → Evaluated) (ls : List Slot) (t : ℕ) (w : World)
      → SameEval n (eval z m k e ls t w) y → SameFrom n (eval z m k o) go → SameEval n (eval z m k (low.binary (low.writing a) e o) ls t w) (member_stored z m a y go)
  member_stored_same n (member.Field i) e o y go ls t w h f = binary_same n (FieldSet i) e o y go ls t w h f
  member_stored_same n (member.Property p) e o y go ls t w h f = binary_same n (Write p.entity) e o y go ls t w h f

  member_changed_same : (n : ℕ) (a : TypedMember) (by : Update) (e o : c.Expr) (y : Evaluated) (go : List Slot → ℕ → World → Evaluated) (ls : List Slot) (t : ℕ) (w : World)
      → SameEval n (eval z m k e ls t w) y → SameFrom n (eval z m k o) go → SameEval n (eval z m k (low.binary (low.altering a by) e o) ls t w) (member_changed z m a by y go)
  member_changed_same n (member.Field i) by e o y go ls t w h f = binary_same n (FieldChange by i) e o y go ls t w h f
  member_changed_same n (member.Property p) by e o y go ls t w h f = binary_same n (Alter p.entity by) e o y go ls t w h f

-- calls of functions, imports and methods are the same, where they have an argument for each parameter
abbrev pub CalleesAgree : Module → Callees → Callees → Type 0
CalleesAgree M k k' =
    (f : typed.TypedCallee) (ps : List TypedParameter) (vs : List Slot) (t : ℕ) (w : World) → parameters_of M f ≡ Some ps → length vs ≡ length ps
    → k (callee_of f) vs t w ≡ k' (callee_of f) vs t w

-- what begins as 0, false or null
initial_same : (z : Environment) (m : ℕ) (k : Callees) (n : ℕ) (kind : ValueKind) (ls : List Slot) (t : ℕ) (w : World) → length ls ≡ n
    → SameEval n (eval z m k (low.initial_by kind) ls t w) (Gave (default_of kind) ls t w)
initial_same z m k n Number ls t w l = record { same = refl; keeps = l }
initial_same z m k n Handle ls t w l = record { same = refl; keeps = l }

gave : (n x : ℕ) (ls : List Slot) (t : ℕ) (w : World) → length ls ≡ n → SameEval n (Gave (Bits x) ls t w) (Gave (Bits x) ls t w)
gave n x ls t w l = record { same = refl; keeps = l }

module _ (z : Environment) (m : ℕ) (M : Module) (k k' : Callees) (callees : CalleesAgree M k k') where
  mutual
    pub value_same : (e : t.Expr) (n : ℕ) (ls : List Slot) (t : ℕ) (w : World) → length ls ≡ n → Sound M n e → SameEval n (eval z m k (low.lowered n e) ls t w) (evaluate z m k' e ls t w)
    value_same (t.number ty x) n ls t w l h = record { same = refl; keeps = l }
    value_same (t.truth b) n ls t w l h = record { same = refl; keeps = l }
    value_same (t.read (t.named x) ty) n ls t w l h = read_same z m k k' n x ls t w l
    value_same (t.read (t.member_of o a) ty) n ls t w l h = read_member_same z m k k' n a (low.lowered n o) (evaluate z m k' o ls t w) ls t w (value_same o n ls t w l h.1)
    value_same t.null n ls t w l h = record { same = refl; keeps = l }
    value_same (t.convert from to e) n ls t w l h = folded_same z m k k' n (converted to) (Convert to) (converts z m to) (low.lowered n e) (evaluate z m k' e ls t w) ls t w (value_same e n ls t w l h)
    value_same (t.negate ty e) n ls t w l h = folded_same z m k k' n (negated ty) (Negate ty) (negates z m ty) (low.lowered n e) (evaluate z m k' e ls t w) ls t w (value_same e n ls t w l h)
    value_same (t.complement ty e) n ls t w l h = folded_same z m k k' n (complemented ty) (Complement ty) (complements z m ty) (low.lowered n e) (evaluate z m k' e ls t w) ls t w (value_same e n ls t w l h)
    value_same (t.not e) n ls t w l h = folded_same z m k k' n denied Not (denies z m) (low.lowered n e) (evaluate z m k' e ls t w) ls t w (value_same e n ls t w l h)
    value_same (t.naming x e) n ls t w l h = value_same e n ls t w l h.1
    value_same (t.cast family e) n ls t w l h = unary_same z m k k' n (Cast family) (low.lowered n e) (evaluate z m k' e ls t w) ls t w (value_same e n ls t w l h.1)
    value_same (t.operate op ty a b) n ls t w l h =
        binary_same z m k k' n (Binary op ty) (low.lowered n a) (low.lowered n b) (evaluate z m k' a ls t w) (evaluate z m k' b) ls t w (value_same a n ls t w l h.0)
        (λ ls' t' w' l'. value_same b n ls' t' w' l' h.1)
    value_same (t.compare op ty a b) n ls t w l h =
        binary_same z m k k' n (Compare op (is_signed ty)) (low.lowered n a) (low.lowered n b) (evaluate z m k' a ls t w) (evaluate z m k' b) ls t w (value_same a n ls t w l h.0)
        (λ ls' t' w' l'. value_same b n ls' t' w' l' h.1)
    value_same (t.same a b) n ls t w l h =
        binary_same z m k k' n Same (low.lowered n a) (low.lowered n b) (evaluate z m k' a ls t w) (evaluate z m k' b) ls t w (value_same a n ls t w l h.0)
        (λ ls' t' w' l'. value_same b n ls' t' w' l' h.1)
    value_same (t.and a b) n ls t w l h =
        chosen_same n (eval z m k (low.lowered n a) ls t w) (evaluate z m k' a ls t w) (eval z m k (low.lowered n b)) (eval z m k (c.number 0)) (evaluate z m k' b) (λ ls' t' w'. Gave (Bits (truth false)) ls' t' w')
        (value_same a n ls t w l h.0) (λ ls' t' w' l'. value_same b n ls' t' w' l' h.1) (λ ls' t' w' l'. gave n 0 ls' t' w' l')
    value_same (t.or a b) n ls t w l h =
        chosen_same n (eval z m k (low.lowered n a) ls t w) (evaluate z m k' a ls t w) (eval z m k (c.number 1)) (eval z m k (low.lowered n b)) (λ ls' t' w'. Gave (Bits (truth true)) ls' t' w') (evaluate z m k' b)
        (value_same a n ls t w l h.0) (λ ls' t' w' l'. gave n 1 ls' t' w' l') (λ ls' t' w' l'. value_same b n ls' t' w' l' h.1)
    value_same (t.choose a b d) n ls t w l h =
        chosen_same n (eval z m k (low.lowered n a) ls t w) (evaluate z m k' a ls t w) (eval z m k (low.lowered n b)) (eval z m k (low.lowered n d)) (evaluate z m k' b) (evaluate z m k' d)
        (value_same a n ls t w l h.0) (λ ls' t' w' l'. value_same b n ls' t' w' l' h.1) (λ ls' t' w' l'. value_same d n ls' t' w' l' h.2)
    value_same (t.assign (t.named x) ty e) n ls t w l h = stored_same z m k k' n x (low.lowered n e) (evaluate z m k' e ls t w) ls t w l (value_same e n ls t w l h.1)
    value_same (t.assign (t.member_of o a) ty e) n ls t w l h =
        member_stored_same z m k k' n a (low.lowered n e) (low.lowered n o) (evaluate z m k' e ls t w) (evaluate z m k' o) ls t w (value_same e n ls t w l h.2)
        (λ ls' t' w' l'. value_same o n ls' t' w' l' h.1)
    value_same (t.compound (t.named x) ty op at e) n ls t w l h = changed_same z m k k' n x (compound_of ty op at) (low.lowered n e) (evaluate z m k' e ls t w) ls t w l (value_same e n ls t w l h.1)
    value_same (t.compound (t.member_of o a) ty op at e) n ls t w l h =
        member_changed_same z m k k' n a (compound_of ty op at) (low.lowered n e) (low.lowered n o) (evaluate z m k' e ls t w) (evaluate z m k' o) ls t w (value_same e n ls t w l h.2)
        (λ ls' t' w' l'. value_same o n ls' t' w' l' h.1)
    value_same (t.step (t.named x) ty kind) n ls t w l h = changed_same z m k k' n x (step_of ty kind) (c.number 1) (Gave (Bits 1) ls t w) ls t w l (gave n 1 ls t w l)
    value_same (t.step (t.member_of o a) ty kind) n ls t w l h =
        member_changed_same z m k k' n a (step_of ty kind) (c.number 1) (low.lowered n o) (Gave (Bits 1) ls t w) (evaluate z m k' o) ls t w (gave n 1 ls t w l)
        (λ ls' t' w' l'. value_same o n ls' t' w' l' h.1)
    value_same (t.make family None args) n ls t w l h = nullary_same z m k k' n (Make family) ls t w l
    value_same (t.make family (Some f) args) n ls t w l h =
        let own = h.1.0 in
        let ps = h.1.1 in
        let at = h.1.2 in
        let sound = h.1.4 in
        let i = suc (argument_count args) in
        let e : i ≡ argument_count args + 1 = omega arith in
        let count : i ≡ length (own ∷ ps) = ap suc (as_many M n ps args sound) in
        called_same n i m (k (Own f)) (k' (Own f)) (low.targets_of n args) (source.targets_of ls args) _ _ (targets_at n ls args l)
        (then_rest_same n i [] (eval z m k (low.made family) ls t w) (applied (perform z m (Make family)) (Ready [] ls t w)) _ (λ v ls' t' w'. evaluate_all z m k' args (v ∷ []) ls' t' w')
        (nullary_same z m k k' n (Make family) ls t w l)
        (λ v ls' t' w' l'. values_same args n i (v ∷ []) ls' t' w' l' e (each_argument M n ps args sound)))
        (λ vs t' w' v. callees (callee.Own f) (own ∷ ps) vs t' w' at (v ∙ count))
    value_same (t.call f ty args) n ls t w l h =
        let count : argument_count args ≡ length h.0 = as_many M n h.0 args h.2 in
        let i = argument_count args in
        let e : i ≡ argument_count args + 0 = omega arith in
        called_same n i m (k (callee_of f)) (k' (callee_of f)) (low.targets_of n args) (source.targets_of ls args) _ (evaluate_all z m k' args [] ls t w) (targets_at n ls args l)
        (values_same args n i [] ls t w l e (each_argument M n h.0 args h.2))
        (λ vs t' w' v. callees f h.0 vs t' w' h.1 (v ∙ count))
    value_same (t.host_call p ty args) n ls t w l h =
        let e : argument_count args ≡ argument_count args + 0 = omega arith in
        applied_same n (argument_count args) (perform z m (Ask p.entity)) _ (evaluate_all z m k' args [] ls t w)
        (values_same args n (argument_count args) [] ls t w l e (each_value M n args h.1))

    pub values_same : (args : t.Args) (n i : ℕ) (vs ls : List Slot) (t : ℕ) (w : World) → length ls ≡ n → i ≡ argument_count args + length vs → EachSound M n args
        → SameAll n i (eval_all z m k (c.exprs (low.lowered_args n args)) vs ls t w) (evaluate_all z m k' args vs ls t w)
    values_same t.none n i vs ls t w l e h = record { same = refl; keeps = (l, omega (arith, e)) }
    values_same (t.more (t.by_value ty x) args) n i vs ls t w l e h =
        then_rest_same n i vs (eval z m k (low.lowered n x) ls t w) (evaluate z m k' x ls t w) _ _ (value_same x n ls t w l h.0)
        (λ v ls' t' w' l'. values_same args n i (v ∷ vs) ls' t' w' l' (omega (arith, e)) h.1)
    values_same (t.more (t.out x from to) args) n i vs ls t w l e h =
        then_rest_same n i vs (eval z m k (low.initial from) ls t w) (Gave (default_of (kind_of from)) ls t w) _ _
        (initial_same z m k n (kind_of from) ls t w l) (λ v ls' t' w' l'. values_same args n i (v ∷ vs) ls' t' w' l' (omega (arith, e)) h)

  pub begin_same : (e : Option t.Expr) (ty : ArgType) (n : ℕ) (ls : List Slot) (t : ℕ) (w : World) → length ls ≡ n → SoundOption M n e
      → SameEval n (eval z m k (low.lowered_begin n ty e) ls t w) (begin_local z m k' ty e ls t w)
  begin_same None ty n ls t w l h = initial_same z m k n (kind_of ty) ls t w l
  begin_same (Some e) ty n ls t w l h = value_same e n ls t w l h

  pub or_same : (e : Option t.Expr) (x n : ℕ) (ls : List Slot) (t : ℕ) (w : World) → length ls ≡ n → SoundOption M n e → SameEval n (eval z m k (low.lowered_or n x e) ls t w) (evaluate_or z m k' x e ls t w)
  or_same None x n ls t w l h = record { same = refl; keeps = l }
  or_same (Some e) x n ls t w l h = value_same e n ls t w l h

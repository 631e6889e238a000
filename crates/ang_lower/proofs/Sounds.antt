-- Lowered code of a sound tree keeps what the generator wants of it.
use Rattle.std.proofs.Common.{◌≡◌, ◌≢◌, ℕ, suc, ◌+◌, ◌<◌, List, [], ◌∷◌, ◌++◌, length, refl, sym, ap, ◌∙◌, subst, arith, Option, Some, None, map}
use Rattle.std.specs.Prelude.{Bool, true, false, not, ◌&&◌, if◌then◌else◌, slice_get, reverse}
use Rattle.std.proofs.lemmas.List.{length-map}
use Rattle.std.proofs.lemmas.Grind.{reverse_onto}
use Rattle.ang_kinds.specs.declared.types.Pass.{Pass}
use Rattle.ang_kinds.specs.declared.types.Pass.TheVariants as pass
use Rattle.ang_types.specs.declared.arg_type.ArgType.{ArgType}
use Rattle.ang_types.specs.declared.arg_type.ArgType.TheVariants as type
use Rattle.ang_view.specs.declared.entry.EntryKind.{EntryKind}
use Rattle.ang_view.specs.declared.entry.EntryKind.TheVariants as kind
use Rattle.ang_typed.specs.declared.expression.HostEntity.{HostEntity}
use Rattle.ang_typed.specs.declared.expression.TypedVariable.{TypedVariable}
use Rattle.ang_typed.specs.declared.expression.TypedVariable.TheVariants as variable
use Rattle.ang_typed.specs.declared.expression.TypedMember.{TypedMember}
use Rattle.ang_typed.specs.declared.expression.TypedMember.TheVariants as member
use Rattle.ang_typed.specs.declared.expression.TypedCallee as typed
use Rattle.ang_typed.specs.declared.expression.TypedCallee.TheVariants as callee
use Rattle.ang_typed.specs.declared.program.TypedParameter.{TypedParameter}
use Rattle.ang_typed.specs.Typed as tree
use Rattle.ang_meaning.specs.declared.class.ValueKind.{ValueKind}
use Rattle.ang_meaning.specs.declared.class.ValueKind.TheVariants.{Number, Handle}
use Rattle.ang_meaning.specs.declared.operation.Update.{Update}
use Rattle.ang_meaning.specs.declared.operation.Operation.{Operation}
use Rattle.ang_meaning.specs.declared.operation.Operation.TheVariants.{Binary, Compare, Convert, Negate, Complement, Not, Same, GlobalGet, GlobalSet, GlobalChange, Ask, Read, Write, Alter, Make, FieldGet, FieldSet, FieldChange, Cast}
use Rattle.ang_meaning.specs.declared.routine.Callee.TheVariants.{Own}
use Rattle.ang_meaning.specs.declared.routine.Passing.{Passing}
use Rattle.ang_meaning.specs.declared.routine.Passing.TheVariants.{In, Out, Object}
use Rattle.ang_meaning.specs.declared.routine.Target.{Target}
use Rattle.ang_meaning.specs.Numbers.{converted, negated, complemented, denied}
use Rattle.ang_kinds.specs.Primitives.{is_signed}
use Rattle.ang_meaning.specs.Environment.{Environment, host_in, is_fit, is_called_by, is_property, may_call, may_access, may_write}
use Rattle.ang_meaning.specs.Perform.{operands, member_count}
use Rattle.ang_core.specs.Sound.{out_count, Fits, AreSpots}
use Rattle.ang_source.specs.Meaning.{Code, of_function, of_global, callee_of, referred, passing_by, passing_of, passings_of, kind_of, compound_of, step_of}
use Rattle.ang_source.specs.Sound.{Module, IsEntity, IsHostCallee, IsWritable, argument_number, IsVariable, IsStored, IsMember, IsStoredMember, parameters_of, Sound, SoundArguments, SoundOption, SoundEach, SoundLocals, SoundStatement, SoundStatements, argument_count, declared, declared_by}
use Rattle.ang_lower.specs.ExprTree as c
use Rattle.ang_lower.specs.Tree as stmt
use Rattle.ang_lower.specs.LoweredExpr as low
use Rattle.ang_lower.specs.Lowered.{lowered_all, lowered_code, lowered_each, lowered_locals, lowered_loop, lowered_simple, lowered_steps, lowered_stmt}
use Rattle.ang_source.specs.Hosts.{host_type_of, is_asked, is_member, role_in, is_constant, use_of, asked_as, HasView}
use Rattle.ang_lower.specs.Same.{SoundCode, HasCallees}
use Rattle.ang_lower.proofs.PlainSound.{operand_count, IsSound, AreSoundArgs, leaves, leaves_all, IsSoundStmt, AreSoundStmts}
use Rattle.ang_lower.proofs.Values.{EachSound, each_argument, each_value, as_many}
use Rattle.ang_lower.proofs.Follows.{passings_count}

-- ---- `&out` parameters and the targets of a call

out_more : (a b : List Passing) → out_count (a ++ b) ≡ out_count a + out_count b
out_more [] b = omega arith
out_more (In ∷ a) b = out_more a b
out_more (Object ∷ a) b = out_more a b
out_more (Out ∷ a) b = ap suc (out_more a b) ∙ omega arith

out_turned : (a : List Passing) → out_count (reverse a) ≡ out_count a
out_turned [] = refl
out_turned (p ∷ a) =
    let e = out_more (reverse a) (p ∷ []) in
    let rest = out_turned a in
    let front = out_more (p ∷ []) a in
    ap out_count (reverse_onto a p []) ∙ omega (arith, e, rest, front)

-- how many arguments are variables that an `&out` value moves into
abbrev pub outs_in : tree.Args → ℕ
outs_in tree.none = 0
outs_in (tree.more (tree.by_value ty e) args) = outs_in args
outs_in (tree.more (tree.out x from to) args) = suc (outs_in args)

target_count : (n : ℕ) (args : tree.Args) (found : List Target) → length (low.targets_behind n args found) ≡ outs_in args + length found
target_count n tree.none found = omega arith
target_count n (tree.more (tree.by_value ty e) args) found = target_count n args found
target_count n (tree.more (tree.out x from to) args) found = let rest = target_count n args (low.with_target n (tree.out x from to) found) in omega (arith, rest)

referred_none : (ty : ArgType) (ps : List Passing) → out_count (referred ty ∷ ps) ≡ out_count ps
referred_none type.Void ps = refl
referred_none type.Null ps = refl
referred_none (type.Plain p) ps = refl
referred_none (type.Enumeration n) ps = refl
referred_none (type.Object n c) ps = refl
referred_none (type.Handle n c) ps = refl

takes_none : (p : Pass) (ty : ArgType) (ps : List Passing) → (p ≢ pass.RefOut) → out_count (passing_by p ty ∷ ps) ≡ out_count ps
takes_none pass.Value ty ps h = refl
takes_none pass.RefIn ty ps h = referred_none ty ps
takes_none pass.RefOut ty ps h = absurd (h refl)
takes_none pass.RefInOut ty ps h = referred_none ty ps

outs_are : (M : Module) (n : ℕ) (ps : List TypedParameter) (args : tree.Args) → SoundArguments M n ps args → out_count (map (λ p. passing_of p) ps) ≡ outs_in args
outs_are M n [] tree.none h = refl
outs_are M n [] (tree.more a args) h = absurd h
outs_are M n (p ∷ ps) tree.none h = absurd h
outs_are M n (p ∷ ps) (tree.more (tree.by_value ty e) args) h = takes_none p.pass p.ty (map (λ x. passing_of x) ps) h.0.0 ∙ outs_are M n ps args h.1
outs_are M n (p ∷ ps) (tree.more (tree.out x from to) args) h = ap (λ q. out_count (passing_by q p.ty ∷ map (λ y. passing_of y) ps)) h.0.0 ∙ ap suc (outs_are M n ps args h.1)

spots_are : (M : Module) (n : ℕ) (ps : List TypedParameter) (args : tree.Args) (found : List Target) → SoundArguments M n ps args → AreSpots n found → AreSpots n (low.targets_behind n args found)
spots_are M n [] tree.none found h ok = ok
spots_are M n [] (tree.more a args) found h ok = absurd h
spots_are M n (p ∷ ps) tree.none found h ok = absurd h
spots_are M n (p ∷ ps) (tree.more (tree.by_value ty e) args) found h ok = spots_are M n ps args found h.1 ok
spots_are M n (p ∷ ps) (tree.more (tree.out (variable.Local i) from to) args) found h ok =
    let lt : i < n = h.0.1 in
    spots_are M n ps args (low.with_target n (tree.out (variable.Local i) from to) found) h.1 (omega arith, ok)
spots_are M n (p ∷ ps) (tree.more (tree.out (variable.Global g) from to) args) found h ok = spots_are M n ps args (low.with_target n (tree.out (variable.Global g) from to) found) h.1 (tt, ok)
spots_are M n (p ∷ ps) (tree.more (tree.out (variable.Property x) from to) args) found h ok = absurd h.0.1
spots_are M n (p ∷ ps) (tree.more (tree.out (variable.Field i) from to) args) found h ok =
    let lt : 0 < n = h.0.1 in
    spots_are M n ps args (low.with_target n (tree.out (variable.Field i) from to) found) h.1 (omega arith, ok)

-- ---- operations

lowered_count : (n : ℕ) (args : tree.Args) → operand_count (c.exprs (low.lowered_args n args)) ≡ argument_count args
lowered_count n tree.none = refl
lowered_count n (tree.more a args) = ap suc (lowered_count n args)

module _ (z : Environment) (m : ℕ) (M : Module) (callees : HasCallees z m M) (view : HasView z m M.view) where
  -- the host's entity is what the view has
  found : (kind : EntryKind) (h : HostEntity) (e : IsEntity M.view kind h) → is_asked kind ≡ true → z.host m h.entity.0 ≡ Some (use_of e.entry)
  found kind h e can =
      view.each h.entity.0 ∙ ap asked_as e.in_view ∙ ap (λ b. if b then Some (use_of e.entry) else None) (ap is_asked e.same_kind ∙ can)

  -- how many operands its receiver is
  receiver_count : (k : EntryKind) (h : HostEntity) (e : IsEntity M.view k h) → is_asked k ≡ true → member_count (host_in (z.host m h.entity.0)).member ≡ member_count (is_member k)
  receiver_count k h e can = ap (λ o. member_count (host_in o).member) (found k h e can) ∙ ap (λ kd. member_count (is_member kd)) e.same_kind

  -- a global property, and a property of an object, which is its operand
  may_read : (h : HostEntity) → IsEntity M.view kind.Global h → may_access (z.host m h.entity.0) ≡ true
  may_read h e = ap may_access (found kind.Global h e refl) ∙ ap (λ kd. is_property (role_in kd e.entry.f)) e.same_kind

  may_read_of : (h : HostEntity) → IsEntity M.view kind.Property h → may_access (z.host m h.entity.0) ≡ true
  may_read_of h e = ap may_access (found kind.Property h e refl) ∙ ap (λ kd. is_property (role_in kd e.entry.f)) e.same_kind

  read_fits : (h : HostEntity) → IsEntity M.view kind.Global h → (0 ≡ operands z m (Read h.entity)) × (is_fit z m (Read h.entity) ≡ true)
  unfolding operands is_fit
  read_fits h e = (sym (receiver_count kind.Global h e refl), may_read h e)

  read_of_fits : (h : HostEntity) → IsEntity M.view kind.Property h → (1 ≡ operands z m (Read h.entity)) × (is_fit z m (Read h.entity) ≡ true)
  unfolding operands is_fit
  read_of_fits h e = (sym (receiver_count kind.Property h e refl), may_read_of h e)

  may_store : (h : HostEntity) → IsWritable M.view kind.Global h → may_write (z.host m h.entity.0) ≡ true
  may_store h w =
      let e = w.entity in
      let x = e.entry in
      ap may_write (found kind.Global h e refl)
      ∙ ap (λ kd. is_property (role_in kd x.f) && not (is_constant kd x.f x.signature.read_only)) e.same_kind ∙ ap not w.not_const

  may_store_in : (h : HostEntity) → IsWritable M.view kind.Property h → may_write (z.host m h.entity.0) ≡ true
  may_store_in h w =
      let e = w.entity in
      let x = e.entry in
      ap may_write (found kind.Property h e refl)
      ∙ ap (λ kd. is_property (role_in kd x.f) && not (is_constant kd x.f x.signature.read_only)) e.same_kind ∙ ap not w.not_const

  write_fits : (h : HostEntity) → IsWritable M.view kind.Global h → (1 ≡ operands z m (Write h.entity)) × (is_fit z m (Write h.entity) ≡ true)
  unfolding operands is_fit
  write_fits h w = let alone = receiver_count kind.Global h w.entity refl in (omega (arith, alone), may_store h w)

  write_in_fits : (h : HostEntity) → IsWritable M.view kind.Property h → (2 ≡ operands z m (Write h.entity)) × (is_fit z m (Write h.entity) ≡ true)
  unfolding operands is_fit
  write_in_fits h w = let one = receiver_count kind.Property h w.entity refl in (omega (arith, one), may_store_in h w)

  alter_fits : (h : HostEntity) (by : Update) → IsWritable M.view kind.Global h → (1 ≡ operands z m (Alter h.entity by)) × (is_fit z m (Alter h.entity by) ≡ true)
  unfolding operands is_fit
  alter_fits h by w = let alone = receiver_count kind.Global h w.entity refl in (omega (arith, alone), may_store h w)

  alter_in_fits : (h : HostEntity) (by : Update) → IsWritable M.view kind.Property h → (2 ≡ operands z m (Alter h.entity by)) × (is_fit z m (Alter h.entity by) ≡ true)
  unfolding operands is_fit
  alter_in_fits h by w = let one = receiver_count kind.Property h w.entity refl in (omega (arith, one), may_store_in h w)

  -- how many arguments it declares
  param_count : (k : EntryKind) (h : HostEntity) (e : IsEntity M.view k h) → is_asked k ≡ true → length (host_in (z.host m h.entity.0)).params ≡ length e.entry.signature.params
  param_count k h e can =
      let x = e.entry in
      ap (λ o. length (host_in o).params) (found k h e can) ∙ length-map x.signature.params (λ p. host_type_of p.ty)

  may_be_called : (k : EntryKind) (h : HostEntity) (e : IsEntity M.view k h) → is_asked k ≡ true
      → may_call (z.host m h.entity.0) ≡ is_called_by (role_in k e.entry.f) (is_member k)
  may_be_called k h e can =
      let x = e.entry in
      ap may_call (found k h e can) ∙ ap (λ kd. is_called_by (role_in kd x.f) (is_member kd)) e.same_kind

  asked_fits : (k : EntryKind) (h : HostEntity) (count : ℕ) (e : IsEntity M.view k h) → argument_number k (length e.entry.signature.params) ≡ Some count
      → (count ≡ operands z m (Ask h.entity)) × (is_fit z m (Ask h.entity) ≡ true)
  unfolding operands is_fit
  asked_fits kind.HostType h count e same = absurd (cc)
  asked_fits kind.Factory h count e same =
      let alone = receiver_count kind.Factory h e refl in
      let many = param_count kind.Factory h e refl in
      let is : length e.entry.signature.params ≡ count = cc in
      (omega (arith, alone, many, is), may_be_called kind.Factory h e refl)
  asked_fits kind.Method h count e same =
      let one = receiver_count kind.Method h e refl in
      let many = param_count kind.Method h e refl in
      let is : suc (length e.entry.signature.params) ≡ count = cc in
      (omega (arith, one, many, is), may_be_called kind.Method h e refl)
  asked_fits kind.Property h count e same = absurd (cc)
  asked_fits kind.Function h count e same =
      let alone = receiver_count kind.Function h e refl in
      let many = param_count kind.Function h e refl in
      let is : length e.entry.signature.params ≡ count = cc in
      (omega (arith, alone, many, is), may_be_called kind.Function h e refl)
  asked_fits kind.Global h count e same = absurd (cc)
  asked_fits kind.Enumeration h count e same = absurd (cc)
  asked_fits (kind.EnumValue v) h count e same = absurd (cc)

  ask_fits : (h : HostEntity) (count : ℕ) → IsHostCallee M.view h count → (count ≡ operands z m (Ask h.entity)) × (is_fit z m (Ask h.entity) ≡ true)
  ask_fits h count f = asked_fits f.kind h count f.entity f.params

  -- ---- expressions

  nullary_sound : (n : ℕ) (o : Operation) → (0 ≡ operands z m o) × (is_fit z m o ≡ true) → IsSound z m n (c.apply o c.none)
  nullary_sound n o f = (f.0, f.1, tt)

  unary_sound : (n : ℕ) (o : Operation) (e : c.Expr) → (1 ≡ operands z m o) × (is_fit z m o ≡ true) → IsSound z m n e → IsSound z m n (low.unary o e)
  unary_sound n o e f h = (f.0, f.1, (h, tt))

  folded_sound : (n : ℕ) (f : ℕ → ℕ) (o : Operation) (e : c.Expr) → (1 ≡ operands z m o) × (is_fit z m o ≡ true) → IsSound z m n e → IsSound z m n (low.folded f o e)
  folded_sound n f o (c.number x) fit h = tt
  folded_sound n f o c.null fit h = unary_sound n o c.null fit h
  folded_sound n f o (c.local i) fit h = unary_sound n o (c.local i) fit h
  folded_sound n f o (c.assign i a) fit h = unary_sound n o (c.assign i a) fit h
  folded_sound n f o (c.change i by a) fit h = unary_sound n o (c.change i by a) fit h
  folded_sound n f o (c.apply q args) fit h = unary_sound n o (c.apply q args) fit h
  folded_sound n f o (c.call q args outs) fit h = unary_sound n o (c.call q args outs) fit h
  folded_sound n f o (c.choose a b d) fit h = unary_sound n o (c.choose a b d) fit h

  initial_sound : (n : ℕ) (kd : ValueKind) → IsSound z m n (low.initial_by kd)
  initial_sound n Number = tt
  initial_sound n Handle = tt

  binary_sound : (n : ℕ) (o : Operation) (a b : c.Expr) → (2 ≡ operands z m o) × (is_fit z m o ≡ true) → IsSound z m n a → IsSound z m n b → IsSound z m n (low.binary o a b)
  binary_sound n o a b f h i = (f.0, f.1, (h, (i, tt)))

  this_sound : (n : ℕ) → 0 < n → IsSound z m n (low.this_at n)
  this_sound n lt = omega (arith, lt)

  read_sound : (n : ℕ) (x : TypedVariable) → IsVariable M n x → IsSound z m n (low.read n x)
  unfolding operands is_fit
  read_sound n (variable.Local i) h = omega arith
  read_sound n (variable.Global g) h = nullary_sound n (GlobalGet g) (refl, refl)
  read_sound n (variable.Property p) h = nullary_sound n (Read p.entity) (read_fits p h)
  read_sound n (variable.Field i) h = unary_sound n (FieldGet i) (low.this_at n) (refl, refl) (this_sound n h)

  stored_sound : (n : ℕ) (x : TypedVariable) (e : c.Expr) → IsStored M n x → IsSound z m n e → IsSound z m n (low.stored n x e)
  unfolding operands is_fit
  stored_sound n (variable.Local i) e h s = (omega arith, s)
  stored_sound n (variable.Global g) e h s = unary_sound n (GlobalSet g) e (refl, refl) s
  stored_sound n (variable.Property p) e h s = unary_sound n (Write p.entity) e (write_fits p h) s
  stored_sound n (variable.Field i) e h s = binary_sound n (FieldSet i) e (low.this_at n) (refl, refl) s (this_sound n h)

  changed_sound : (n : ℕ) (x : TypedVariable) (by : Update) (e : c.Expr) → IsStored M n x → IsSound z m n e → IsSound z m n (low.changed n x by e)
  unfolding operands is_fit
  changed_sound n (variable.Local i) by e h s = (omega arith, s)
  changed_sound n (variable.Global g) by e h s = unary_sound n (GlobalChange by g) e (refl, refl) s
  changed_sound n (variable.Property p) by e h s = unary_sound n (Alter p.entity by) e (alter_fits p by h) s
  changed_sound n (variable.Field i) by e h s = binary_sound n (FieldChange by i) e (low.this_at n) (refl, refl) s (this_sound n h)

  -- members of objects

  read_member_sound : (n : ℕ) (a : TypedMember) (o : c.Expr) → IsMember M a → IsSound z m n o → IsSound z m n (low.unary (low.reading a) o)
  unfolding operands is_fit
  read_member_sound n (member.Field i) o h s = unary_sound n (FieldGet i) o (refl, refl) s
  read_member_sound n (member.Property p) o h s = unary_sound n (Read p.entity) o (read_of_fits p h) s

  member_stored_sound : (n : ℕ) (a : TypedMember) (e o : c.Expr) → IsStoredMember M a → IsSound z m n e → IsSound z m n o → IsSound z m n (low.binary (low.writing a) e o)
  unfolding operands is_fit
  member_stored_sound n (member.Field i) e o h s u = binary_sound n (FieldSet i) e o (refl, refl) s u
  member_stored_sound n (member.Property p) e o h s u = binary_sound n (Write p.entity) e o (write_in_fits p h) s u

  member_changed_sound : (n : ℕ) (a : TypedMember) (by : Update) (e o : c.Expr) → IsStoredMember M a → IsSound z m n e → IsSound z m n o → IsSound z m n (low.binary (low.altering a by) e o)
  unfolding operands is_fit
  member_changed_sound n (member.Field i) by e o h s u = binary_sound n (FieldChange by i) e o (refl, refl) s u
  member_changed_sound n (member.Property p) by e o h s u = binary_sound n (Alter p.entity by) e o (alter_in_fits p by h) s u

  -- ---- calls

  -- as many arguments as there are parameters, and as many targets as `&out` parameters
  values_count : (n : ℕ) (ps : List TypedParameter) (args : tree.Args) → SoundArguments M n ps args → length (passings_of ps) ≡ operand_count (c.exprs (low.lowered_args n args))
  values_count n ps args h = passings_count ps ∙ sym (as_many M n ps args h) ∙ sym (lowered_count n args)

  outs_count : (n : ℕ) (ps : List TypedParameter) (args : tree.Args) → SoundArguments M n ps args → out_count (passings_of ps) ≡ length (low.targets_of n args)
  outs_count n ps args h =
      let turned = out_turned (map (λ p. passing_of p) ps) in
      let outs = outs_are M n ps args h in
      let many = target_count n args [] in
      omega (arith, turned, outs, many)

  call_fits : (n : ℕ) (f : typed.TypedCallee) (ps : List TypedParameter) (args : tree.Args) → parameters_of M f ≡ Some ps → SoundArguments M n ps args
      → Fits z m (callee_of f) (operand_count (c.exprs (low.lowered_args n args))) (length (low.targets_of n args))
  call_fits n (callee.Own f) ps args at h =
      record { params = passings_of ps; known = callees.functions f ps at; count = values_count n ps args h; given = outs_count n ps args h }
  call_fits n (callee.Import i) ps args at h = (passings_of ps, callees.imports i ps at, values_count n ps args h, outs_count n ps args h)
  call_fits n (callee.Chosen s) ps args at h = (passings_of ps, callees.methods s ps at, values_count n ps args h, outs_count n ps args h)

  -- a constructor's own object is its first argument
  make_fits : (n f : ℕ) (own : TypedParameter) (ps : List TypedParameter) (args : tree.Args) → slice_get M.parameters f ≡ Some (own ∷ ps) → (own.pass ≢ pass.RefOut) → SoundArguments M n ps args
      → Fits z m (Own f) (suc (operand_count (c.exprs (low.lowered_args n args)))) (length (low.targets_of n args))
  make_fits n f own ps args at taken h = record {
    params = passings_of (own ∷ ps);
    known = callees.functions f (own ∷ ps) at;
    count = passings_count (own ∷ ps) ∙ ap suc (sym (as_many M n ps args h) ∙ sym (lowered_count n args));
    given =
        let turned = out_turned (map (λ p. passing_of p) (own ∷ ps)) in
        let first = takes_none own.pass own.ty (map (λ p. passing_of p) ps) taken in
        let outs = outs_are M n ps args h in
        let many = target_count n args [] in
        omega (arith, turned, first, outs, many);
  }

  mutual
    unfolding operands is_fit

    pub lowered_sound : (e : tree.Expr) (n : ℕ) → Sound M n e → IsSound z m n (low.lowered n e)
    lowered_sound (tree.number ty x) n h = tt
    lowered_sound (tree.truth b) n h = tt
    lowered_sound (tree.read (tree.named x) ty) n h = read_sound n x h
    lowered_sound (tree.read (tree.member_of o a) ty) n h = read_member_sound n a (low.lowered n o) h.0 (lowered_sound o n h.1)
    lowered_sound tree.null n h = tt
    lowered_sound (tree.convert from to e) n h = folded_sound n (converted to) (Convert to) (low.lowered n e) (refl, refl) (lowered_sound e n h)
    lowered_sound (tree.negate ty e) n h = folded_sound n (negated ty) (Negate ty) (low.lowered n e) (refl, refl) (lowered_sound e n h)
    lowered_sound (tree.complement ty e) n h = folded_sound n (complemented ty) (Complement ty) (low.lowered n e) (refl, refl) (lowered_sound e n h)
    lowered_sound (tree.not e) n h = folded_sound n denied Not (low.lowered n e) (refl, refl) (lowered_sound e n h)
    lowered_sound (tree.operate op ty a b) n h = binary_sound n (Binary op ty) (low.lowered n a) (low.lowered n b) (refl, refl) (lowered_sound a n h.0) (lowered_sound b n h.1)
    lowered_sound (tree.compare op ty a b) n h = binary_sound n (Compare op (is_signed ty)) (low.lowered n a) (low.lowered n b) (refl, refl) (lowered_sound a n h.0) (lowered_sound b n h.1)
    lowered_sound (tree.and a b) n h = (lowered_sound a n h.0, lowered_sound b n h.1, tt)
    lowered_sound (tree.or a b) n h = (lowered_sound a n h.0, tt, lowered_sound b n h.1)
    lowered_sound (tree.choose a b d) n h = (lowered_sound a n h.0, lowered_sound b n h.1, lowered_sound d n h.2)
    lowered_sound (tree.same a b) n h = binary_sound n Same (low.lowered n a) (low.lowered n b) (refl, refl) (lowered_sound a n h.0) (lowered_sound b n h.1)
    lowered_sound (tree.naming x e) n h = lowered_sound e n h.1
    lowered_sound (tree.cast family e) n h = unary_sound n (Cast family) (low.lowered n e) (refl, refl) (lowered_sound e n h.1)
    lowered_sound (tree.make family None args) n h = nullary_sound n (Make family) (refl, callees.classes family h.0)
    lowered_sound (tree.make family (Some f) args) n h = (
      make_fits n f h.1.0 h.1.1 args h.1.2 h.1.3 h.1.4,
      spots_are M n h.1.1 args [] h.1.4 tt,
      (nullary_sound n (Make family) (refl, callees.classes family h.0), args_sound args n (each_argument M n h.1.1 args h.1.4)),
    )
    lowered_sound (tree.assign (tree.named x) ty e) n h = stored_sound n x (low.lowered n e) h.0 (lowered_sound e n h.1)
    lowered_sound (tree.assign (tree.member_of o a) ty e) n h = member_stored_sound n a (low.lowered n e) (low.lowered n o) h.0 (lowered_sound e n h.2) (lowered_sound o n h.1)
    lowered_sound (tree.compound (tree.named x) ty op at e) n h = changed_sound n x (compound_of ty op at) (low.lowered n e) h.0 (lowered_sound e n h.1)
    lowered_sound (tree.compound (tree.member_of o a) ty op at e) n h =
        member_changed_sound n a (compound_of ty op at) (low.lowered n e) (low.lowered n o) h.0 (lowered_sound e n h.2) (lowered_sound o n h.1)
    lowered_sound (tree.step (tree.named x) ty kd) n h = changed_sound n x (step_of ty kd) (c.number 1) h tt
    lowered_sound (tree.step (tree.member_of o a) ty kd) n h = member_changed_sound n a (step_of ty kd) (c.number 1) (low.lowered n o) h.0 tt (lowered_sound o n h.1)
    lowered_sound (tree.call f ty args) n h = (call_fits n f h.0 args h.1 h.2, spots_are M n h.0 args [] h.2 tt, args_sound args n (each_argument M n h.0 args h.2))
    lowered_sound (tree.host_call p ty args) n h =
        let f = ask_fits p (argument_count args) h.0 in
        (lowered_count n args ∙ f.0, f.1, args_sound args n (each_value M n args h.1))

    args_sound : (args : tree.Args) (n : ℕ) → EachSound M n args → AreSoundArgs z m n (c.exprs (low.lowered_args n args))
    args_sound tree.none n h = tt
    args_sound (tree.more (tree.by_value ty e) args) n h = (lowered_sound e n h.0, args_sound args n h.1)
    args_sound (tree.more (tree.out x from to) args) n h = (initial_sound n (kind_of from), args_sound args n h)

  begin_sound : (e : Option tree.Expr) (ty : ArgType) (n : ℕ) → SoundOption M n e → IsSound z m n (low.lowered_begin n ty e)
  begin_sound None ty n h = initial_sound n (kind_of ty)
  begin_sound (Some e) ty n h = lowered_sound e n h

  or_sound : (e : Option tree.Expr) (x n : ℕ) → SoundOption M n e → IsSound z m n (low.lowered_or n x e)
  or_sound None x n h = tt
  or_sound (Some e) x n h = lowered_sound e n h

  -- ---- statements

  append_sound : (loop : Bool) (n : ℕ) (a b : List stmt.Stmt) → AreSoundStmts z m loop n (stmt.stmts a) → AreSoundStmts z m loop (leaves_all (stmt.stmts a) + n) (stmt.stmts b) → AreSoundStmts z m loop n (stmt.stmts (a ++ b))
  append_sound loop n [] b h i = let e : 0 + n ≡ n = omega arith in subst (λ j. AreSoundStmts z m loop j (stmt.stmts b)) e i
  append_sound loop n (s ∷ a) b h i =
      let e : leaves_all (stmt.stmts a) + leaves s + n ≡ leaves_all (stmt.stmts a) + (leaves s + n) = omega arith in
      (h.0, append_sound loop (leaves s + n) a b h.1 (subst (λ j. AreSoundStmts z m loop j (stmt.stmts b)) e i))

  leaves_append : (a b : List stmt.Stmt) → leaves_all (stmt.stmts (a ++ b)) ≡ leaves_all (stmt.stmts b) + leaves_all (stmt.stmts a)
  leaves_append [] b = omega arith
  leaves_append (s ∷ a) b = let rest = leaves_append a b in omega (arith, rest)

  locals_leave : (xs : List tree.Local) (n : ℕ) → leaves_all (stmt.stmts (lowered_locals n xs)) ≡ length xs
  locals_leave [] n = refl
  locals_leave (x ∷ xs) n = let rest = locals_leave xs (suc n) in omega (arith, rest)

  simple_leaves : (e : Option tree.Expr) (n : ℕ) → leaves (lowered_simple n e) ≡ 0
  simple_leaves None n = refl
  simple_leaves (Some e) n = refl

  mutual
    statement_leaves : (s : tree.Stmt) (n : ℕ) → leaves_all (stmt.stmts (lowered_stmt n s)) ≡ declared s
    statement_leaves (tree.block ss) n = refl
    statement_leaves (tree.locals xs) n = locals_leave xs n
    statement_leaves (tree.expression e) n = let z0 = simple_leaves e n in omega (arith, z0)
    statement_leaves tree.break n = refl
    statement_leaves tree.continue n = refl
    statement_leaves (tree.return e) n = refl
    statement_leaves (tree.either e ss otherwise) n = refl
    statement_leaves (tree.while e ss) n = refl
    statement_leaves (tree.do_while ss e) n = refl
    statement_leaves (tree.for start e steps ss) n = refl

    statements_leave : (ss : tree.Stmts) (n : ℕ) → leaves_all (stmt.stmts (lowered_all n ss)) ≡ declared_by ss
    statements_leave tree.end n = refl
    statements_leave (tree.«then» s ss) n =
        let both = leaves_append (lowered_stmt n s) (lowered_all (declared s + n) ss) in
        let one = statement_leaves s n in
        let rest = statements_leave ss (declared s + n) in
        omega (arith, both, one, rest)

  locals_sound : (loop : Bool) (xs : List tree.Local) (n : ℕ) → SoundLocals M n xs → AreSoundStmts z m loop n (stmt.stmts (lowered_locals n xs))
  locals_sound loop [] n h = tt
  locals_sound loop (x ∷ xs) n h =
      let e : suc n ≡ 1 + n = omega arith in
      (begin_sound x.initializer x.ty n h.1, subst (λ i. AreSoundStmts z m loop i (stmt.stmts (lowered_locals (suc n) xs))) e (locals_sound loop xs (suc n) h.2))

  simple_sound : (loop : Bool) (e : Option tree.Expr) (n : ℕ) → SoundOption M n e → IsSoundStmt z m loop n (lowered_simple n e)
  simple_sound loop None n h = tt
  simple_sound loop (Some e) n h = lowered_sound e n h

  each_sound : (loop : Bool) (es : List tree.Expr) (n : ℕ) → SoundEach M n es → AreSoundStmts z m loop n (stmt.stmts (lowered_each n es))
  each_sound loop [] n h = tt
  each_sound loop (e ∷ es) n h =
      let i : n ≡ 0 + n = omega arith in
      (lowered_sound e n h.0, subst (λ j. AreSoundStmts z m loop j (stmt.stmts (lowered_each n es))) i (each_sound loop es n h.1))

  steps_sound : (loop : Bool) (es : List tree.Expr) (n : ℕ) → SoundEach M n es → IsSoundStmt z m loop n (lowered_steps n es)
  steps_sound loop [] n h = tt
  steps_sound loop (e ∷ es) n h = each_sound loop (e ∷ es) n h

  mutual
    pub statement_sound : (s : tree.Stmt) (loop : Bool) (n : ℕ) → SoundStatement M loop n s → AreSoundStmts z m loop n (stmt.stmts (lowered_stmt n s))
    statement_sound (tree.block ss) loop n h = (statements_sound ss loop n h, tt)
    statement_sound (tree.locals xs) loop n h = locals_sound loop xs n h
    statement_sound (tree.expression e) loop n h = (simple_sound loop e n h, tt)
    statement_sound tree.break loop n h = (h, tt)
    statement_sound tree.continue loop n h = (h, tt)
    statement_sound (tree.return e) loop n h = (or_sound e 0 n h, tt)
    statement_sound (tree.either e ss otherwise) loop n h = ((lowered_sound e n h.0, statements_sound ss loop n h.1, statements_sound otherwise loop n h.2), tt)
    statement_sound (tree.while e ss) loop n h = ((lowered_sound e n h.0, statements_sound ss true n h.1, tt), tt)
    statement_sound (tree.do_while ss e) loop n h = ((lowered_sound e n h.1, statements_sound ss true n h.0), tt)
    statement_sound (tree.for start e steps ss) loop n h =
        let n1 = declared_by start + n in
        let a = lowered_all n start in
        let b = lowered_loop n1 e steps (lowered_all n1 ss) in
        let i : declared_by start + n ≡ leaves_all (stmt.stmts a) + n = ap (λ j. j + n) (sym (statements_leave start n)) in
        let whole : AreSoundStmts z m loop n1 (stmt.stmts (b ∷ [])) = ((or_sound e 1 n1 h.1, statements_sound ss true n1 h.3, steps_sound false steps n1 h.2), tt) in
        (append_sound loop n a (b ∷ []) (statements_sound start loop n h.0) (subst (λ j. AreSoundStmts z m loop j (stmt.stmts (b ∷ []))) i whole), tt)

    pub statements_sound : (ss : tree.Stmts) (loop : Bool) (n : ℕ) → SoundStatements M loop n ss → AreSoundStmts z m loop n (stmt.stmts (lowered_all n ss))
    statements_sound tree.end loop n h = tt
    statements_sound (tree.«then» s ss) loop n h =
        let n1 = declared s + n in
        let a = lowered_stmt n s in
        let b = lowered_all n1 ss in
        let i : declared s + n ≡ leaves_all (stmt.stmts a) + n = ap (λ j. j + n) (sym (statement_leaves s n)) in
        append_sound loop n a b (statement_sound s loop n h.0) (subst (λ j. AreSoundStmts z m loop j (stmt.stmts b)) i (statements_sound ss loop n1 h.1))

  pub code_sound : (x : Code) (n : ℕ) → SoundCode M n x → IsSoundStmt z m false n (lowered_code n x)
  code_sound (of_function ss) n h = statements_sound ss false n h
  code_sound (of_global g e) n h = stored_sound n (variable.Global g) (low.lowered n e) h.0 (lowered_sound e n h.1)

-- Which operations on the host are fit, and with how many operands, by the entry that they ask.
use Rattle.std.proofs.Common.{◌≡◌, ℕ, false, Option, Some, None, Bor, IfSome, IfNone, MatchOption, sym, ap, subst, ◌∙◌}
use Rattle.ang_kinds.specs.declared.mask.EntityNo.{EntityNo}
use Rattle.ang_meaning.specs.declared.operation.Update.{Update}
use Rattle.ang_meaning.specs.declared.host.HostUse.{HostUse}
use Rattle.ang_meaning.specs.declared.operation.Operation.{Operation}
use Rattle.ang_meaning.specs.declared.operation.Operation.TheVariants.{Binary, Compare, Convert, Negate, Complement, Not, Same, GlobalGet, GlobalSet, GlobalChange, Ask, Read, Write, Alter, Make, FieldGet, FieldSet, FieldChange, Cast}
use Rattle.ang_meaning.specs.Environment.{Environment, may_call, may_access, may_write, is_fit}
use Rattle.ang_meaning.specs.Perform.{operands}
use Rattle.ang_vm_stack.specs.declared.table.Table.{Table}
use Rattle.ang_vm_stack.specs.Tables.{entity_of, setting_of}
use Rattle.ang_vm_ask.specs.Asks.{asked_by}
use Rattle.ang_vm_ask.specs.Entities.{AsksEntry}
use Rattle.ang_vm_ask.specs.Fitting.{IsCalledWith, IsReadWith, IsWrittenWith, IsFitWith}

-- an operation on an entity that its module does not see is not fit
pub unseen : (z : Environment) (m : ℕ) (o : Operation) (e : EntityNo) → asked_by o ≡ Some e → z.host m e.0 ≡ None → is_fit z m o ≡ false
unfolding is_fit
unseen z m (Ask i) e is none =
    let same : i ≡ e = cc in ap may_call (ap (λ k. z.host m k.0) same ∙ none)
unseen z m (Read i) e is none =
    let same : i ≡ e = cc in ap may_access (ap (λ k. z.host m k.0) same ∙ none)
unseen z m (Write i) e is none =
    let same : i ≡ e = cc in ap may_write (ap (λ k. z.host m k.0) same ∙ none)
unseen z m (Alter i c) e is none =
    let same : i ≡ e = cc in ap may_write (ap (λ k. z.host m k.0) same ∙ none)
unseen z m (Binary a p) e is none = absurd (let y : ⊥ = cc in y)
unseen z m (Compare c signed) e is none = absurd (let y : ⊥ = cc in y)
unseen z m (Convert p) e is none = absurd (let y : ⊥ = cc in y)
unseen z m (Negate p) e is none = absurd (let y : ⊥ = cc in y)
unseen z m (Complement p) e is none = absurd (let y : ⊥ = cc in y)
unseen z m Not e is none = absurd (let y : ⊥ = cc in y)
unseen z m Same e is none = absurd (let y : ⊥ = cc in y)
unseen z m (GlobalGet g) e is none = absurd (let y : ⊥ = cc in y)
unseen z m (GlobalSet g) e is none = absurd (let y : ⊥ = cc in y)
unseen z m (GlobalChange c g) e is none = absurd (let y : ⊥ = cc in y)
unseen z m (Make c) e is none = absurd (let y : ⊥ = cc in y)
unseen z m (FieldGet i) e is none = absurd (let y : ⊥ = cc in y)
unseen z m (FieldSet i) e is none = absurd (let y : ⊥ = cc in y)
unseen z m (FieldChange c i) e is none = absurd (let y : ⊥ = cc in y)
unseen z m (Cast c) e is none = absurd (let y : ⊥ = cc in y)

pub unseen_unfit : (t : Table) (m nesting : ℕ) (o : Operation) (e : EntityNo) (r : Option (Bor HostUse)) → asked_by o ≡ Some e
    → MatchOption r (entity_of t m e.0 ≡ None) (λ u. entity_of t m e.0 ≡ Some u.now) → IfNone r (is_fit (setting_of t nesting) m o ≡ false)
unseen_unfit t m nesting o e None is none = unseen (setting_of t nesting) m o e is none
unseen_unfit t m nesting o e (Some u) is seen = tt

-- ---- what an operation takes, by the entry that it asks

seen_as : (t : Table) (m : ℕ) (o : Operation) (e : EntityNo) (u : HostUse) → asked_by o ≡ Some e → AsksEntry t m o u → entity_of t m e.0 ≡ Some u
seen_as t m o e u is entry =
    let same : e ≡ entry.entity = let both : Some e ≡ Some entry.entity = sym is ∙ entry.asked in cc in
    ap (λ k. entity_of t m k.0) same ∙ entry.seen

pub called_fit : (t : Table) (m nesting : ℕ) (e : EntityNo) (o : Operation) (u : HostUse) (r : Option ℕ) → o ≡ Ask e → AsksEntry t m o u
    → IfSome r (IsCalledWith (Some u)) → IfSome r (IsFitWith (setting_of t nesting) m o)
unfolding is_fit operands
called_fit t m nesting e o u r is entry taken =
    let seen : entity_of t m e.0 ≡ Some u = seen_as t m o e u (ap asked_by is) entry in
    subst (λ x. IfSome r (IsFitWith (setting_of t nesting) m x)) (sym is) (subst (λ x. IfSome r (IsCalledWith x)) (sym seen) taken)

pub called_unfit : (t : Table) (m nesting : ℕ) (e : EntityNo) (o : Operation) (u : HostUse) (r : Option ℕ) → o ≡ Ask e → AsksEntry t m o u
    → IfNone r (may_call (Some u) ≡ false) → IfNone r (is_fit (setting_of t nesting) m o ≡ false)
unfolding is_fit
called_unfit t m nesting e o u r is entry none =
    let seen : entity_of t m e.0 ≡ Some u = seen_as t m o e u (ap asked_by is) entry in
    subst (λ x. IfNone r (is_fit (setting_of t nesting) m x ≡ false)) (sym is) (subst (λ x. IfNone r (may_call x ≡ false)) (sym seen) none)

pub read_fit : (t : Table) (m nesting : ℕ) (e : EntityNo) (o : Operation) (u : HostUse) (r : Option ℕ) → o ≡ Read e → AsksEntry t m o u
    → IfSome r (IsReadWith (Some u)) → IfSome r (IsFitWith (setting_of t nesting) m o)
unfolding is_fit operands
read_fit t m nesting e o u r is entry taken =
    let seen : entity_of t m e.0 ≡ Some u = seen_as t m o e u (ap asked_by is) entry in
    subst (λ x. IfSome r (IsFitWith (setting_of t nesting) m x)) (sym is) (subst (λ x. IfSome r (IsReadWith x)) (sym seen) taken)

pub read_unfit : (t : Table) (m nesting : ℕ) (e : EntityNo) (o : Operation) (u : HostUse) (r : Option ℕ) → o ≡ Read e → AsksEntry t m o u
    → IfNone r (may_access (Some u) ≡ false) → IfNone r (is_fit (setting_of t nesting) m o ≡ false)
unfolding is_fit
read_unfit t m nesting e o u r is entry none =
    let seen : entity_of t m e.0 ≡ Some u = seen_as t m o e u (ap asked_by is) entry in
    subst (λ x. IfNone r (is_fit (setting_of t nesting) m x ≡ false)) (sym is) (subst (λ x. IfNone r (may_access x ≡ false)) (sym seen) none)

pub written_fit : (t : Table) (m nesting : ℕ) (e : EntityNo) (o : Operation) (u : HostUse) (r : Option ℕ) → o ≡ Write e → AsksEntry t m o u
    → IfSome r (IsWrittenWith (Some u)) → IfSome r (IsFitWith (setting_of t nesting) m o)
unfolding is_fit operands
written_fit t m nesting e o u r is entry taken =
    let seen : entity_of t m e.0 ≡ Some u = seen_as t m o e u (ap asked_by is) entry in
    subst (λ x. IfSome r (IsFitWith (setting_of t nesting) m x)) (sym is) (subst (λ x. IfSome r (IsWrittenWith x)) (sym seen) taken)

pub written_unfit : (t : Table) (m nesting : ℕ) (e : EntityNo) (o : Operation) (u : HostUse) (r : Option ℕ) → o ≡ Write e → AsksEntry t m o u
    → IfNone r (may_write (Some u) ≡ false) → IfNone r (is_fit (setting_of t nesting) m o ≡ false)
unfolding is_fit
written_unfit t m nesting e o u r is entry none =
    let seen : entity_of t m e.0 ≡ Some u = seen_as t m o e u (ap asked_by is) entry in
    subst (λ x. IfNone r (is_fit (setting_of t nesting) m x ≡ false)) (sym is) (subst (λ x. IfNone r (may_write x ≡ false)) (sym seen) none)

pub altered_fit : (t : Table) (m nesting : ℕ) (e : EntityNo) (c : Update) (o : Operation) (u : HostUse) (r : Option ℕ) → o ≡ Alter e c → AsksEntry t m o u
    → IfSome r (IsWrittenWith (Some u)) → IfSome r (IsFitWith (setting_of t nesting) m o)
unfolding is_fit operands
altered_fit t m nesting e c o u r is entry taken =
    let seen : entity_of t m e.0 ≡ Some u = seen_as t m o e u (ap asked_by is) entry in
    subst (λ x. IfSome r (IsFitWith (setting_of t nesting) m x)) (sym is) (subst (λ x. IfSome r (IsWrittenWith x)) (sym seen) taken)

pub altered_unfit : (t : Table) (m nesting : ℕ) (e : EntityNo) (c : Update) (o : Operation) (u : HostUse) (r : Option ℕ) → o ≡ Alter e c → AsksEntry t m o u
    → IfNone r (may_write (Some u) ≡ false) → IfNone r (is_fit (setting_of t nesting) m o ≡ false)
unfolding is_fit
altered_unfit t m nesting e c o u r is entry none =
    let seen : entity_of t m e.0 ≡ Some u = seen_as t m o e u (ap asked_by is) entry in
    subst (λ x. IfNone r (is_fit (setting_of t nesting) m x ≡ false)) (sym is) (subst (λ x. IfNone r (may_write x ≡ false)) (sym seen) none)

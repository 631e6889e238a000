-- A tree that is sound over a view is sound over any view that has what it uses of the first.
use Rattle.std.proofs.lemmas.Bool.Decides.{eqb_tells}
use Rattle.std.proofs.Common.{inl, inr, ◌≡◌, ℕ, zero, suc, ◌+◌, ◌<◌, ◌≤◌, ◌==◌, Bool, true, false, cond, ◌||◌, List, [], ◌∷◌, ◌++◌, length, Option, Some, None, refl, sym, ap, ◌∙◌, arith}
use Rattle.std.specs.Prelude.{IfOk, IsSome, is_some, Result, Ok, Err, replicate, slice_index_or, slice_set}
use Rattle.std.specs.List.{flat_map}
use Rattle.ang_kinds.specs.declared.types.Pass.{Pass}
use Rattle.ang_view.specs.declared.entry.EntryKind.{EntryKind}
use Rattle.ang_view.specs.declared.entry.EntryKind.TheVariants.{Property, Global}
use Rattle.ang_view.specs.Hidden.{shown_from}
use Rattle.ang_view.specs.Only.{kept_entry, only}
use Rattle.ang_view.specs.Registration.{RegistrationList, entry_at}
use Rattle.ang_view.proofs.Keeping.{kept_stays, length-only}
use Rattle.ang_types.specs.declared.arg_type.ArgType.{ArgType}
use Rattle.ang_types.specs.declared.arg_type.ArgType.TheVariants as type
use Rattle.ang_typed.specs.declared.expression.HostEntity.{HostEntity}
use Rattle.ang_typed.specs.declared.expression.TypedCallee.{TypedCallee}
use Rattle.ang_typed.specs.declared.expression.TypedCallee.TheVariants as callee
use Rattle.ang_typed.specs.declared.expression.TypedMember.{TypedMember}
use Rattle.ang_typed.specs.declared.expression.TypedMember.TheVariants as member
use Rattle.ang_typed.specs.declared.expression.TypedVariable.{TypedVariable}
use Rattle.ang_typed.specs.declared.expression.TypedVariable.TheVariants as variable
use Rattle.ang_typed.specs.declared.program.TypedClass.{TypedClass}
use Rattle.ang_typed.specs.declared.program.TypedParameter.{TypedParameter}
use Rattle.ang_typed.specs.Typed as t
use Rattle.ang_source.specs.Sound as s
use Rattle.ang_source.specs.Sound.{Module, module_of, IsEntity, IsNoBlank, IsSeenType, IsWritable, IsHostCallee, argument_count, declared, declared_by, SoundProgram}
use Rattle.ang_typed.specs.Uses.{args_uses, arg_uses, class_uses, expr_uses, function_uses, global_uses, heading_uses, local_uses, marked, member_uses, option_uses, parameter_uses, stmt_uses, stmts_uses, type_uses, uses, variable_uses}
use Rattle.ang_engine_build.specs.Narrowed.{is_among, narrowed}

-- ---- numbers whose entries stay

module _ (P : ℕ → Type 0) where
  abbrev pub AllOf : List ℕ → Type 0
  AllOf [] = Unit {0}
  AllOf (n ∷ ns) = P n × AllOf ns

  pub front_of : (ms ns : List ℕ) → AllOf (ms ++ ns) → AllOf ms
  front_of [] ns h = tt
  front_of (m ∷ ms) ns h = (h.0, front_of ms ns h.1)

  pub back_of : (ms ns : List ℕ) → AllOf (ms ++ ns) → AllOf ns
  back_of [] ns h = h
  back_of (m ∷ ms) ns h = back_of ms ns h.1

module _ (M : Module) (W : RegistrationList) (same : length W ≡ length M.view) where
  abbrev Over : Module
  Over = record M { view = W }

  abbrev Stays : ℕ → Type 0
  Stays n = entry_at W n ≡ entry_at M.view n

  abbrev Stay : List ℕ → Type 0
  Stay = AllOf Stays

  abbrev entity : (kind : EntryKind) (h : HostEntity) → Stays h.entity.0 → IsEntity M.view kind h → IsEntity W kind h
  entity kind h stays e = record { entry = e.entry; in_view = stays ∙ e.in_view; same_kind = e.same_kind; driver = e.driver; number = e.number }

  writable : (kind : EntryKind) (h : HostEntity) → Stays h.entity.0 → IsWritable M.view kind h → IsWritable W kind h
  writable kind h stays w = record { entity = entity kind h stays w.entity; not_const = w.not_const }

  host_callee : (h : HostEntity) (count : ℕ) → Stays h.entity.0 → IsHostCallee M.view h count → IsHostCallee W h count
  host_callee h count stays c = record { kind = c.kind; entity = entity c.kind h stays c.entity; params = c.params }

  named : (n : ℕ) → Stays n → IsSome (entry_at M.view n) → IsSome (entry_at W n)
  named n stays h = ap is_some stays ∙ h

  no_blank : (n : ℕ) → Stays n → IsNoBlank M.view n → IsNoBlank W n
  no_blank n stays h = λ within. named n stays (h (omega (arith, within, same)))

  seen_type : (ty : ArgType) → Stay (type_uses ty) → IsSeenType M.view ty → IsSeenType W ty
  seen_type type.Void u h = tt
  seen_type type.Null u h = tt
  seen_type (type.Plain p) u h = tt
  seen_type (type.Enumeration n) u h = no_blank n u.0 h
  seen_type (type.Object n c) u h = no_blank n u.0 h
  seen_type (type.Handle n c) u h = no_blank n u.0 h

  is_variable : (n : ℕ) (x : TypedVariable) → Stay (variable_uses x) → s.IsVariable M n x → s.IsVariable Over n x
  is_variable n (variable.Local i) u h = h
  is_variable n (variable.Global g) u h = h
  is_variable n (variable.Property x) u h = entity Global x u.0 h
  is_variable n (variable.Field i) u h = h

  is_stored : (n : ℕ) (x : TypedVariable) → Stay (variable_uses x) → s.IsStored M n x → s.IsStored Over n x
  is_stored n (variable.Local i) u h = h
  is_stored n (variable.Global g) u h = h
  is_stored n (variable.Property x) u h = writable Global x u.0 h
  is_stored n (variable.Field i) u h = h

  is_target : (n : ℕ) (x : TypedVariable) → s.IsTarget M n x → s.IsTarget Over n x
  is_target n (variable.Local i) h = h
  is_target n (variable.Global g) h = h
  is_target n (variable.Property x) h = h
  is_target n (variable.Field i) h = h

  is_member : (m : TypedMember) → Stay (member_uses m) → s.IsMember M m → s.IsMember Over m
  is_member (member.Field i) u h = h
  is_member (member.Property x) u h = entity Property x u.0 h

  is_stored_member : (m : TypedMember) → Stay (member_uses m) → s.IsStoredMember M m → s.IsStoredMember Over m
  is_stored_member (member.Field i) u h = h
  is_stored_member (member.Property x) u h = writable Property x u.0 h

  parameters_same : (f : TypedCallee) → s.parameters_of Over f ≡ s.parameters_of M f
  parameters_same (callee.Own f) = refl
  parameters_same (callee.Import i) = refl
  parameters_same (callee.Chosen k) = refl

  -- of two parts of a use
  abbrev first : (ms ns : List ℕ) → Stay (ms ++ ns) → Stay ms
  first = front_of Stays

  abbrev second : (ms ns : List ℕ) → Stay (ms ++ ns) → Stay ns
  second = back_of Stays

  mutual
    sound : (n : ℕ) (e : t.Expr) → Stay (expr_uses e) → s.Sound M n e → s.Sound Over n e
    sound n (t.number ty x) u h = tt
    sound n (t.truth b) u h = tt
    sound n (t.read (t.named x) ty) u h = is_variable n x u h
    sound n (t.read (t.member_of o a) ty) u h = (is_member a (second (expr_uses o) (member_uses a) u) h.0, sound n o (first (expr_uses o) (member_uses a) u) h.1)
    sound n t.null u h = tt
    sound n (t.convert from to e) u h = sound n e u h
    sound n (t.negate ty e) u h = sound n e u h
    sound n (t.complement ty e) u h = sound n e u h
    sound n (t.not e) u h = sound n e u h
    sound n (t.operate op ty l r) u h = (sound n l (first (expr_uses l) (expr_uses r) u) h.0, sound n r (second (expr_uses l) (expr_uses r) u) h.1)
    sound n (t.compare op ty l r) u h = (sound n l (first (expr_uses l) (expr_uses r) u) h.0, sound n r (second (expr_uses l) (expr_uses r) u) h.1)
    sound n (t.and l r) u h = (sound n l (first (expr_uses l) (expr_uses r) u) h.0, sound n r (second (expr_uses l) (expr_uses r) u) h.1)
    sound n (t.or l r) u h = (sound n l (first (expr_uses l) (expr_uses r) u) h.0, sound n r (second (expr_uses l) (expr_uses r) u) h.1)
    sound n (t.choose c l r) u h =
        let rest = second (expr_uses c) (expr_uses l ++ expr_uses r) u in
        (sound n c (first (expr_uses c) (expr_uses l ++ expr_uses r) u) h.0, sound n l (first (expr_uses l) (expr_uses r) rest) h.1, sound n r (second (expr_uses l) (expr_uses r) rest) h.2)
    sound n (t.same l r) u h = (sound n l (first (expr_uses l) (expr_uses r) u) h.0, sound n r (second (expr_uses l) (expr_uses r) u) h.1)
    sound n (t.cast c e) u h = (h.0, sound n e u h.1)
    sound n (t.naming x e) u h = (named x.0 u.0 h.0, sound n e u.1 h.1)
    sound n (t.make c None args) u h = h
    sound n (t.make c (Some k) args) u h = (h.0, (h.1.0, h.1.1, h.1.2, h.1.3, sound_arguments n h.1.1 args u h.1.4))
    sound n (t.assign (t.named x) ty e) u h = (is_stored n x (first (variable_uses x) (expr_uses e) u) h.0, sound n e (second (variable_uses x) (expr_uses e) u) h.1)
    sound n (t.assign (t.member_of o a) ty e) u h =
        let site = first (expr_uses o ++ member_uses a) (expr_uses e) u in
        (is_stored_member a (second (expr_uses o) (member_uses a) site) h.0, sound n o (first (expr_uses o) (member_uses a) site) h.1, sound n e (second (expr_uses o ++ member_uses a) (expr_uses e) u) h.2)
    sound n (t.compound (t.named x) ty op at e) u h = (is_stored n x (first (variable_uses x) (expr_uses e) u) h.0, sound n e (second (variable_uses x) (expr_uses e) u) h.1)
    sound n (t.compound (t.member_of o a) ty op at e) u h =
        let site = first (expr_uses o ++ member_uses a) (expr_uses e) u in
        (is_stored_member a (second (expr_uses o) (member_uses a) site) h.0, sound n o (first (expr_uses o) (member_uses a) site) h.1, sound n e (second (expr_uses o ++ member_uses a) (expr_uses e) u) h.2)
    sound n (t.step (t.named x) ty kind) u h = is_stored n x u h
    sound n (t.step (t.member_of o a) ty kind) u h = (is_stored_member a (second (expr_uses o) (member_uses a) u) h.0, sound n o (first (expr_uses o) (member_uses a) u) h.1)
    sound n (t.call f result args) u h = (h.0, parameters_same f ∙ h.1, sound_arguments n h.0 args u h.2)
    sound n (t.host_call x result args) u h = (host_callee x (argument_count args) u.0 h.0, sound_values n args u.1 h.1)

    sound_arguments : (n : ℕ) (ps : List TypedParameter) (args : t.Args) → Stay (args_uses args) → s.SoundArguments M n ps args → s.SoundArguments Over n ps args
    sound_arguments n [] t.none u h = tt
    sound_arguments n [] (t.more a args) u h = h
    sound_arguments n (p ∷ ps) t.none u h = h
    sound_arguments n (p ∷ ps) (t.more a args) u h = (sound_argument n p.pass a (first (arg_uses a) (args_uses args) u) h.0, sound_arguments n ps args (second (arg_uses a) (args_uses args) u) h.1)

    sound_argument : (n : ℕ) (pass : Pass) (a : t.Arg) → Stay (arg_uses a) → s.SoundArgument M n pass a → s.SoundArgument Over n pass a
    sound_argument n pass (t.by_value ty e) u h = (h.0, sound n e u h.1)
    sound_argument n pass (t.out x from to) u h = (h.0, is_target n x h.1)

    sound_values : (n : ℕ) (args : t.Args) → Stay (args_uses args) → s.SoundValues M n args → s.SoundValues Over n args
    sound_values n t.none u h = tt
    sound_values n (t.more a args) u h = (sound_value n a (first (arg_uses a) (args_uses args) u) h.0, sound_values n args (second (arg_uses a) (args_uses args) u) h.1)

    sound_value : (n : ℕ) (a : t.Arg) → Stay (arg_uses a) → s.SoundValue M n a → s.SoundValue Over n a
    sound_value n (t.by_value ty e) u h = sound n e u h
    sound_value n (t.out x from to) u h = h

  sound_option : (n : ℕ) (o : Option t.Expr) → Stay (option_uses o) → s.SoundOption M n o → s.SoundOption Over n o
  sound_option n None u h = tt
  sound_option n (Some e) u h = sound n e u h

  sound_each : (n : ℕ) (es : List t.Expr) → Stay (flat_map expr_uses es) → s.SoundEach M n es → s.SoundEach Over n es
  sound_each n [] u h = tt
  sound_each n (e ∷ es) u h = (sound n e (first (expr_uses e) (flat_map expr_uses es) u) h.0, sound_each n es (second (expr_uses e) (flat_map expr_uses es) u) h.1)

  sound_locals : (n : ℕ) (ls : List t.Local) → Stay (flat_map local_uses ls) → s.SoundLocals M n ls → s.SoundLocals Over n ls
  sound_locals n [] u h = tt
  sound_locals n (l ∷ ls) u h =
      let here = first (local_uses l) (flat_map local_uses ls) u in (
        seen_type l.ty (first (type_uses l.ty) (option_uses l.initializer) here) h.0,
        sound_option n l.initializer (second (type_uses l.ty) (option_uses l.initializer) here) h.1,
        sound_locals (suc n) ls (second (local_uses l) (flat_map local_uses ls) u) h.2,
      )

  mutual
    sound_statement : (loop : Bool) (n : ℕ) (x : t.Stmt) → Stay (stmt_uses x) → s.SoundStatement M loop n x → s.SoundStatement Over loop n x
    sound_statement loop n (t.block ss) u h = sound_statements loop n ss u h
    sound_statement loop n (t.locals ls) u h = sound_locals n ls u h
    sound_statement loop n (t.expression e) u h = sound_option n e u h
    sound_statement loop n t.break u h = h
    sound_statement loop n t.continue u h = h
    sound_statement loop n (t.return e) u h = sound_option n e u h
    sound_statement loop n (t.either c ss otherwise) u h =
        let rest = second (expr_uses c) (stmts_uses ss ++ stmts_uses otherwise) u in (
          sound n c (first (expr_uses c) (stmts_uses ss ++ stmts_uses otherwise) u) h.0,
          sound_statements loop n ss (first (stmts_uses ss) (stmts_uses otherwise) rest) h.1,
          sound_statements loop n otherwise (second (stmts_uses ss) (stmts_uses otherwise) rest) h.2,
        )
    sound_statement loop n (t.while c ss) u h = (sound n c (first (expr_uses c) (stmts_uses ss) u) h.0, sound_statements true n ss (second (expr_uses c) (stmts_uses ss) u) h.1)
    sound_statement loop n (t.do_while ss c) u h = (sound_statements true n ss (second (expr_uses c) (stmts_uses ss) u) h.0, sound n c (first (expr_uses c) (stmts_uses ss) u) h.1)
    sound_statement loop n (t.for start c steps ss) u h =
        let a = second (stmts_uses start) (option_uses c ++ (flat_map expr_uses steps ++ stmts_uses ss)) u in
        let b = second (option_uses c) (flat_map expr_uses steps ++ stmts_uses ss) a in (
          sound_statements loop n start (first (stmts_uses start) (option_uses c ++ (flat_map expr_uses steps ++ stmts_uses ss)) u) h.0,
          sound_option (declared_by start + n) c (first (option_uses c) (flat_map expr_uses steps ++ stmts_uses ss) a) h.1,
          sound_each (declared_by start + n) steps (first (flat_map expr_uses steps) (stmts_uses ss) b) h.2,
          sound_statements true (declared_by start + n) ss (second (flat_map expr_uses steps) (stmts_uses ss) b) h.3,
        )

    sound_statements : (loop : Bool) (n : ℕ) (ss : t.Stmts) → Stay (stmts_uses ss) → s.SoundStatements M loop n ss → s.SoundStatements Over loop n ss
    sound_statements loop n t.end u h = tt
    sound_statements loop n (t.then x ss) u h = (sound_statement loop n x (first (stmt_uses x) (stmts_uses ss) u) h.0, sound_statements loop (declared x + n) ss (second (stmt_uses x) (stmts_uses ss) u) h.1)

  sound_functions : (fs : List t.TypedFunction) → Stay (flat_map function_uses fs) → s.SoundFunctions M fs → s.SoundFunctions Over fs
  sound_functions [] u h = tt
  sound_functions (f ∷ fs) u h =
      let here = first (function_uses f) (flat_map function_uses fs) u in
      let inside = second (type_uses f.result) (stmts_uses f.body) (second (flat_map parameter_uses f.parameters) (type_uses f.result ++ stmts_uses f.body) here) in
      (sound_statements false (length f.parameters) f.body inside h.0, sound_functions fs (second (function_uses f) (flat_map function_uses fs) u) h.1)

  sound_globals : (gs : List t.Global) → Stay (flat_map global_uses gs) → s.SoundGlobals M gs → s.SoundGlobals Over gs
  sound_globals [] u h = tt
  sound_globals (g ∷ gs) u h =
      let here = first (global_uses g) (flat_map global_uses gs) u in
      (sound_option 0 g.initializer (second (type_uses g.ty) (option_uses g.initializer) here) h.0, sound_globals gs (second (global_uses g) (flat_map global_uses gs) u) h.1)

  are_chosen : (rs : List (ℕ × ℕ)) → s.AreChosen M rs → s.AreChosen Over rs
  are_chosen [] h = tt
  are_chosen (r ∷ rs) h = (record { heading = h.0.heading; slot_is = h.0.slot_is; parameters = h.0.parameters; body_is = h.0.body_is; alike = h.0.alike }, are_chosen rs h.1)

  sound_classes : (cs : List TypedClass) → s.SoundClasses M cs → s.SoundClasses Over cs
  sound_classes [] h = tt
  sound_classes (c ∷ cs) h = (record { chosen = are_chosen c.chosen h.0.chosen; base = h.0.base; above = h.0.above }, sound_classes cs h.1)

-- what a tree uses is the same in the other view
abbrev pub SameUses : RegistrationList → RegistrationList → t.Program → Type 0
SameUses V W p = AllOf (λ n. entry_at W n ≡ entry_at V n) (uses p)

pub sound_over : (V W : RegistrationList) (p : t.Program) → length W ≡ length V → SameUses V W p → SoundProgram V p → SoundProgram W p
unfolding uses
sound_over V W p same u h =
    let M = module_of V p in
    let P : ℕ → Type 0 = λ n. entry_at W n ≡ entry_at V n in
    let fs = flat_map function_uses p.functions in
    let gs = flat_map global_uses p.globals in
    let rest = flat_map class_uses p.classes ++ (flat_map heading_uses p.methods ++ flat_map heading_uses p.imports) in
    record {
      functions = sound_functions M W same p.functions (front_of P fs (gs ++ rest) u) h.functions;
      globals = sound_globals M W same p.globals (front_of P gs rest (back_of P fs (gs ++ rest) u)) h.globals;
      classes = sound_classes M W same p.classes h.classes;
    }

-- ---- what is narrowed

itself : (n : ℕ) → (n == n) ≡ true
itself n = search arith

or_left : (b c : Bool) → b ≡ true → (b || c) ≡ true
or_left true c e = refl
or_left false c e = cc

or_right : (b c : Bool) → c ≡ true → (b || c) ≡ true
or_right true c e = refl
or_right false c e = e

weaken : (P Q : ℕ → Type 0) → ((n : ℕ) → P n → Q n) → (ns : List ℕ) → AllOf P ns → AllOf Q ns
weaken P Q f [] h = tt
weaken P Q f (n ∷ ns) h = (f n h.0, weaken P Q f ns h.1)

pub all_among : (ns : List ℕ) → AllOf (λ n. is_among ns n ≡ true) ns
all_among [] = tt
all_among (n ∷ ns) =
    (or_left (n == n) (is_among ns n) (itself n), weaken (λ k. is_among ns k ≡ true) (λ k. is_among (n ∷ ns) k ≡ true) (λ k h. or_right (n == k) (is_among ns k) h) ns (all_among ns))

pub narrowed_sound : (V : RegistrationList) (p : t.Program) → SoundProgram V p → SoundProgram (narrowed V p) p
unfolding narrowed
narrowed_sound V p h =
    sound_over V (only (is_among (uses p)) V) p (length-only (is_among (uses p)) V)
    (weaken (λ n. is_among (uses p) n ≡ true) (λ n. entry_at (only (is_among (uses p)) V) n ≡ entry_at V n) (λ n k. kept_stays (is_among (uses p)) V n k) (uses p) (all_among (uses p))) h

-- ---- by marks

shown_same : (f g : ℕ → Bool) (a : ℕ) (R : RegistrationList) → ((n : ℕ) → a ≤ n → n < a + length R → f n ≡ g n) → shown_from (kept_entry f) a R ≡ shown_from (kept_entry g) a R
shown_same f g a [] h = refl
shown_same f g a (x ∷ xs) h =
    let here : f a ≡ g a = h a (omega arith) (omega arith) in
    let rest = shown_same f g (a + 1) xs (λ n low high. h n (omega (arith, low)) (omega (arith, high))) in
    λ i. cond (here i) x None ∷ rest i

only_same : (f g : ℕ → Bool) (R : RegistrationList) → ((n : ℕ) → n < length R → f n ≡ g n) → only f R ≡ only g R
unfolding only
only_same f g R h = shown_same f g 0 R (λ n low high. h n (omega (arith, high)))

or_none : (b : Bool) → b ≡ (b || false)
or_none true = refl
or_none false = refl

or_all : (b : Bool) → true ≡ (b || true)
or_all true = refl
or_all false = refl

or_assoc : (a b c : Bool) → ((a || b) || c) ≡ (a || (b || c))
or_assoc true b c = refl
or_assoc false b c = refl

unlike : (k n : ℕ) → (k ≡ n → ⊥) → false ≡ (k == n)
unlike k n h = elim (eqb_tells k n) [ inl e ↦ absurd (h e.1) | inr e ↦ sym e.0 ]

equal : (k n : ℕ) → k ≡ n → (k == n) ≡ true
equal k n h = elim (eqb_tells k n) [ inl e ↦ e.0 | inr e ↦ absurd (e.1 h) ]

same_next : (k n : ℕ) → (k == n) ≡ (suc k == suc n)
same_next k n =
    elim (eqb_tells k n) [ inl e ↦ e.0 ∙ sym (equal (suc k) (suc n) (ap suc e.1)) | inr e ↦ e.0 ∙ unlike (suc k) (suc n) (λ s. e.1 (omega (arith, s))) ]

set_at : (bs : List Bool) (k n : ℕ) → n < length bs → slice_index_or (slice_set bs k true) n false ≡ (slice_index_or bs n false || (k == n))
set_at [] k n lt = absurd (omega (arith, lt))
set_at (b ∷ bs) zero zero lt = or_all b
set_at (b ∷ bs) zero (suc n) lt = or_none (slice_index_or bs n false) ∙ ap (λ c. slice_index_or bs n false || c) (unlike zero (suc n) (λ e. let x : ⊥ = cc in x))
set_at (b ∷ bs) (suc k) zero lt = or_none b ∙ ap (λ c. b || c) (unlike (suc k) zero (λ e. let x : ⊥ = cc in x))
set_at (b ∷ bs) (suc k) (suc n) lt = set_at bs k n (omega (arith, lt)) ∙ ap (λ c. slice_index_or bs n false || c) (same_next k n)

set_length : (bs : List Bool) (k : ℕ) → length (slice_set bs k true) ≡ length bs
set_length [] k = refl
set_length (b ∷ bs) zero = refl
set_length (b ∷ bs) (suc k) = ap suc (set_length bs k)

marked_at : (ns : List ℕ) (bs : List Bool) (n : ℕ) → n < length bs → slice_index_or (marked ns bs) n false ≡ (slice_index_or bs n false || is_among ns n)
marked_at [] bs n lt = or_none (slice_index_or bs n false)
marked_at (k ∷ ns) bs n lt =
    marked_at ns (slice_set bs k true) n (omega (arith, lt, set_length bs k))
    ∙ ap (λ b. b || is_among ns n) (set_at bs k n lt)
    ∙ or_assoc (slice_index_or bs n false) (k == n) (is_among ns n)

none_marked : (count n : ℕ) → slice_index_or (replicate count false) n false ≡ false
none_marked zero n = refl
none_marked (suc count) zero = refl
none_marked (suc count) (suc n) = none_marked count n

length_replicate : (count : ℕ) → length (replicate count false) ≡ count
length_replicate zero = refl
length_replicate (suc count) = ap suc (length_replicate count)

pub kept_by_marks : (V : RegistrationList) (p : t.Program) (bs : List Bool) → bs ≡ marked (uses p) (replicate (length V) false) → only (λ n. slice_index_or bs n false) V ≡ narrowed V p
unfolding narrowed
kept_by_marks V p bs e =
    only_same (λ n. slice_index_or bs n false) (is_among (uses p)) V
    (λ n lt.
    ap (λ (l : List Bool). slice_index_or l n false) e
    ∙ marked_at (uses p) (replicate (length V) false) n (omega (arith, lt, length_replicate (length V)))
    ∙ ap (λ b. b || is_among (uses p) n) (none_marked (length V) n))

pub kept_so : {X : Type 0} (r : Result RegistrationList X) (V : RegistrationList) (p : t.Program) (bs : List Bool) → bs ≡ marked (uses p) (replicate (length V) false)
    → IfOk r (λ v. v ≡ only (λ n. slice_index_or bs n false) V) → IfOk r (λ v. v ≡ narrowed V p)
kept_so (Ok v) V p bs e h = h ∙ kept_by_marks V p bs e
kept_so (Err x) V p bs e h = tt

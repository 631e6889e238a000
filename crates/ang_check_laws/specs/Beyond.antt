-- Refusals that no hidden entry could help (docs/LANGUAGE.md, "Denials"). What is refused of a body over what its module sees is tried over a
-- larger view: the one name, call or operator that was refused, with its operands as they were typed, by the rules of the checker.
use Rattle.std.specs.Prelude.{◌≡◌, ℕ, Bool, true, false, Contains, length, List, [], ◌∷◌, map, option_map, Option, Some, None, Ok, Err, slice_get}
use Rattle.std.specs.List.{filter_map}
use Rattle.ang_lex.specs.declared.token.Token.{Token}
use Rattle.ang_tree.specs.declared.type_name.TypeName.{TypeName}
use Rattle.ang_tree.specs.Declarations.{SuperTree}
use Rattle.ang_tree.specs.Stmt.{Init, absent, value, constructor, Var, Vars, Start, with_variables, with_expression, Stmt, Body, Stmts, block, variables, expression, break, continue, return, when, either, while, do_while, for, body, end}
use Rattle.ang_tree.specs.Stmt as written
use Rattle.ang_tree.specs.Tree.{Tree, Args, Trees, literal, name, call, scoped_call, scoped_name, cast, convert, group, postfix, member, method_call, prefix, binary, conditional, assignment, arguments, none, more}
use Rattle.ang_types.specs.declared.arg_type.ArgType.{ArgType}
use Rattle.ang_types.specs.declared.asks.Refused.{Refused}
use Rattle.ang_view.specs.declared.entry.Entry.{Entry}
use Rattle.ang_view.specs.Hidden.{is_hidden, seen_with}
use Rattle.ang_view.specs.Named.{is_value}
use Rattle.ang_view.specs.Registration.{RegistrationList, entry_at, is_type, mentions, seen}
use Rattle.ang_names_known.specs.declared.names.Names.{Names}
use Rattle.ang_names_known.specs.declared.names.ScriptConstructor.{ScriptConstructor}
use Rattle.ang_names_known.specs.declared.names.ScriptFunction.{ScriptFunction}
use Rattle.ang_names_known.specs.declared.names.ScriptGlobal.{ScriptGlobal}
use Rattle.ang_names_known.specs.declared.names.ScriptMethod.{ScriptMethod}
use Rattle.ang_names_classes.specs.Resolved.{names_of}
use Rattle.ang_names_listed.specs.Declarations.{declarations_of}
use Rattle.ang_names_listed.specs.Sources.{Source}
use Rattle.ang_check_operators.specs.declared.refusal.TypingRefusal.{TypingRefusal}
use Rattle.ang_check_operators.specs.Operations.{binary_typing, prefix_typing, postfix_typing, convert_typing, conditional_typing, assignment_typing}
use Rattle.ang_check_operators.specs.Refusals.{Typing}
use Rattle.ang_check_context.specs.declared.scope.LocalVariable.{LocalVariable}
use Rattle.ang_check_context.specs.Casts.{cast_type, cast_typing}
use Rattle.ang_check_context.specs.Members.{member_typing}
use Rattle.ang_check_context.specs.Names.{name_typing, scoped_name_typing}
use Rattle.ang_check_context.specs.Scope.{BodyContext}
use Rattle.ang_check_typing.specs.Calls.{call_typing, scoped_typing, method_call_typing}
use Rattle.ang_check_typing.specs.Typing.{word_by, typing_of, typing_of_args}
use Rattle.ang_check_stmt.specs.Typing.{FunctionContext, optional_condition, condition_typing, local_type, absent_typing, value_typing, arguments_typing, local_typing, start_typing, head_typing, tested_typing, stmt_typing}
use Rattle.ang_check.specs.Typing.{parameter_local, this_local, frame_of, maker_frame, super_by, implicit_super, base_typing}
use Rattle.ang_check.specs.Bodies.{Part, a_function, a_global, a_method, a_constructor, a_default, context_in, within_of, base_of, base_name, method_at, constructor_at, judged, parts_of, refused_of, refusal_in}
use Rattle.ang_check_laws.specs.Asked.{refuses_use}

-- ---- what is tried

-- what is refused, if anything is
abbrev pub refusal : {A : Type 0} → Typing A → Option TypingRefusal
refusal (Ok a) = None
refusal (Err r) = Some r

-- If the first of two things was typed, the second is tried, and else what was refused of the first.
abbrev pub tried_by : {A : Type 0} → Typing A → Option TypingRefusal → (A → Option TypingRefusal) → Option TypingRefusal
tried_by (Ok a) first next = next a
tried_by (Err r) first next = first

abbrev pub over : BodyContext → RegistrationList → BodyContext
over s W = record s { view = W }

-- In a body, with these parameters and locals alive, tried over a view:
module _ (s : BodyContext) (W : RegistrationList) (ps : List LocalVariable) where
  abbrev mutual
    pub tried : Tree → Option TypingRefusal
    tried (literal x) = refusal (word_by (over s W) x x.kind)
    tried (name x) = refusal (name_typing (over s W) ps x)
    tried (call x es) = tried_by (typing_of_args s ps es) (args_tried es) (λ operands. refusal (call_typing (over s W) ps x operands))
    tried (scoped_call c scope x es) = tried_by (typing_of_args s ps es) (args_tried es) (λ operands. refusal (scoped_typing (over s W) c x operands))
    tried (scoped_name c scope x) = refusal (scoped_name_typing (over s W) ps c x)
    tried (cast word less y greater left e right) =
        tried_by (cast_type s ps y) (refusal (cast_type (over s W) ps y))
        (λ ty. tried_by (typing_of s ps e) (tried e) (λ a. refusal (cast_typing word ty a)))
    tried (convert word left e right) = tried_by (typing_of s ps e) (tried e) (λ a. refusal (convert_typing s.ancestors word a))
    tried (group left e right) = tried e
    tried (postfix e op) = tried_by (typing_of s ps e) (tried e) (λ a. refusal (postfix_typing a op.kind))
    tried (member e dot x) = tried_by (typing_of s ps e) (tried e) (λ a. refusal (member_typing (over s W) a x))
    tried (method_call e dot x es) =
        tried_by (typing_of s ps e) (tried e)
        (λ a. tried_by (typing_of_args s ps es) (args_tried es) (λ operands. refusal (method_call_typing (over s W) a x operands)))
    tried (prefix op e) = tried_by (typing_of s ps e) (tried e) (λ a. refusal (prefix_typing s.ancestors op a))
    tried (binary l op r) =
        tried_by (typing_of s ps l) (tried l)
        (λ a. tried_by (typing_of s ps r) (tried r) (λ b. refusal (binary_typing s.ancestors a op.kind b)))
    tried (conditional c question l colon r) =
        tried_by (typing_of s ps c) (tried c)
        (λ x. tried_by (typing_of s ps l) (tried l)
        (λ a. tried_by (typing_of s ps r) (tried r) (λ b. refusal (conditional_typing s.ancestors x a b))))
    tried (assignment l op r) =
        tried_by (typing_of s ps l) (tried l)
        (λ a. tried_by (typing_of s ps r) (tried r) (λ b. refusal (assignment_typing s.ancestors a op b)))

    pub args_tried : Args → Option TypingRefusal
    args_tried (arguments left es right) = all_tried es

    pub all_tried : Trees → Option TypingRefusal
    all_tried none = None
    all_tried (more comma e es) = tried_by (typing_of s ps e) (tried e) (λ a. all_tried es)

  abbrev pub optional_tried : Option Tree → Option TypingRefusal
  optional_tried None = None
  optional_tried (Some e) = tried e

  -- the type of locals, and what a variable begins with
  abbrev pub type_tried : TypeName → Option TypingRefusal
  type_tried y = refusal (local_type (over s W) ps y)

  abbrev pub initializer_tried : TypeName → ArgType → Init → Option TypingRefusal
  initializer_tried y ty absent = refusal (absent_typing (over s W) ps y ty)
  initializer_tried y ty (value equals e) = tried_by (typing_of s ps e) (tried e) (λ a. refusal (value_typing s.ancestors equals ty a))
  initializer_tried y ty (constructor es) =
      tried_by (typing_of_args s ps es) (args_tried es) (λ operands. refusal (arguments_typing (over s W) ps y ty operands))

-- In a function, of a statement: the expressions and variables in it. What a statement itself is refused for is no use.
module _ (f : FunctionContext) (W : RegistrationList) where
  abbrev pub each_local_tried : ℕ → List LocalVariable → TypeName → ArgType → List Var → Option TypingRefusal
  each_local_tried start ps y ty [] = None
  each_local_tried start ps y ty (v ∷ vs) =
      tried_by (local_typing f start ps y ty v) (initializer_tried f.context W ps y ty v.initializer) (λ l. each_local_tried start l.0 y ty vs)

  abbrev pub locals_tried : ℕ → List LocalVariable → Vars → Option TypingRefusal
  locals_tried start ps vs =
      tried_by (local_type f.context ps vs.declared_type) (type_tried f.context W ps vs.declared_type)
      (λ ty. each_local_tried start ps vs.declared_type ty vs.items)

  abbrev pub start_tried : List LocalVariable → Start → Option TypingRefusal
  start_tried ps (with_variables vs) = locals_tried (length ps) ps vs
  start_tried ps (with_expression e semicolon) = optional_tried f.context W ps e

  abbrev pub head_tried : List LocalVariable → Start → Option Tree → Trees → Option TypingRefusal
  head_tried ps b c steps =
      tried_by (start_typing f ps b) (start_tried ps b)
      (λ first. tried_by (optional_condition f.context first.0 c) (optional_tried f.context W first.0 c)
      (λ x. all_tried f.context W first.0 steps))

  abbrev mutual
    pub stmt_tried : Bool → ℕ → List LocalVariable → Stmt → Option TypingRefusal
    stmt_tried loop start ps (block b) = block_tried loop ps b
    stmt_tried loop start ps (variables vs) = locals_tried start ps vs
    stmt_tried loop start ps (expression e semicolon) = optional_tried f.context W ps e
    stmt_tried loop start ps (break word semicolon) = None
    stmt_tried loop start ps (continue word semicolon) = None
    stmt_tried loop start ps (return word e semicolon) = optional_tried f.context W ps e
    stmt_tried loop start ps (when word left c right x) =
        tried_by (condition_typing f.context ps c) (tried f.context W ps c) (λ a. stmt_tried loop (length ps) ps x)
    stmt_tried loop start ps (either word left c right x otherwise u) =
        tried_by (tested_typing f loop ps c x)
        (tried_by (condition_typing f.context ps c) (tried f.context W ps c) (λ a. stmt_tried loop (length ps) ps x))
        (λ b. stmt_tried loop (length ps) ps u)
    stmt_tried loop start ps (while word left c right x) =
        tried_by (condition_typing f.context ps c) (tried f.context W ps c) (λ a. stmt_tried true (length ps) ps x)
    stmt_tried loop start ps (do_while word x again left c right semicolon) =
        tried_by (stmt_typing f true (length ps) ps x) (stmt_tried true (length ps) ps x) (λ y. tried f.context W ps c)
    stmt_tried loop start ps (for word left b c semicolon steps right x) =
        tried_by (head_typing f ps b c steps) (head_tried ps b c steps) (λ h. stmt_tried true (length h.0) h.0 x)

    pub block_tried : Bool → List LocalVariable → Body → Option TypingRefusal
    block_tried loop ps (body left ss right) = stmts_tried loop (length ps) ps ss

    pub stmts_tried : Bool → ℕ → List LocalVariable → Stmts → Option TypingRefusal
    stmts_tried loop start ps end = None
    stmts_tried loop start ps (written.then x ss) =
        tried_by (stmt_typing f loop start ps x) (stmt_tried loop start ps x) (λ y. stmts_tried loop start y.0 ss)

-- In a constructor, of `super`, or where it is not written.
abbrev pub base_tried : BodyContext → RegistrationList → List LocalVariable → Token → Token → Option ℕ → Option SuperTree → Option TypingRefusal
base_tried s W ps x base b None = refusal (implicit_super s.names x.place base b)
base_tried s W ps x base b (Some u) =
    tried_by (typing_of_args s ps u.arguments) (args_tried s W ps u.arguments) (λ operands. refusal (super_by (over s W) u.word operands b))

-- Of a body or an initializer of scripts that declare these names, over what their module sees, tried over a view:
module _ (V W : RegistrationList) (names : Names) where
  abbrev pub function_tried : List ℕ → Body → Option ScriptFunction → Option TypingRefusal
  function_tried text b None = None
  function_tried text b (Some f) =
      let ps = map parameter_local f.params in block_tried (frame_of (context_in V names text None) f.result.ty ps) W false ps b

  abbrev pub global_tried : List ℕ → TypeName → Init → Option ScriptGlobal → Option TypingRefusal
  global_tried text y i None = None
  global_tried text y i (Some g) = initializer_tried (context_in V names text None) W [] y g.written.ty i

  abbrev pub method_tried : ℕ → List ℕ → Body → Option ScriptMethod → Option TypingRefusal
  method_tried c text b None = None
  method_tried c text b (Some m) =
      let w = within_of V names c m.read_only in
      let ps = this_local w ∷ map parameter_local m.function.params in
      block_tried (frame_of (context_in V names text (Some w)) m.function.result.ty ps) W false ps b

  abbrev pub constructor_tried : ℕ → List ℕ → Token → Token → Option ℕ → Option SuperTree → Stmts → Option ScriptConstructor → Option TypingRefusal
  constructor_tried c text x base b u ss None = None
  constructor_tried c text x base b u ss (Some k) =
      let w = within_of V names c false in
      let s = context_in V names text (Some w) in
      let ps = this_local w ∷ map parameter_local k.function.params in
      tried_by (base_typing s ps x base b u) (base_tried s W ps x base b u)
      (λ first. stmts_tried (maker_frame s w ps) W false (length ps) ps ss)

  abbrev pub part_tried : Part → Option Refused
  part_tried (a_function n text x b) = option_map (refused_of text) (function_tried text b (slice_get names.functions n))
  part_tried (a_global n text y i) = option_map (refused_of text) (global_tried text y i (slice_get names.globals n))
  part_tried (a_method c m text x b) = option_map (refused_of text) (method_tried c text b (method_at V names c m))
  part_tried (a_constructor c k text x own bases u ss close) =
      option_map (refused_of text) (constructor_tried c text x (base_name V names c text own bases) (base_of V names c) u ss (constructor_at V names c k))
  part_tried (a_default c text x bases) =
      option_map (refused_of text) (refusal (implicit_super names x.place (base_name V names c text x bases) (base_of V names c)))

-- ---- what is beyond help

-- A list as a registry makes it (docs/HOST.md, "Names" and "Masks"): no two types or enumerations have one name, and a value is declared by its name
-- alone, under its enumeration's mask.
pub record IsRegistered (R : RegistrationList) : Type 0 where
  pub types : (j k : ℕ) (x y : Entry) → entry_at R j ≡ Some x → entry_at R k ≡ Some y → is_type x.kind ≡ true → is_type y.kind ≡ true
      → x.signature.name ≡ y.signature.name → j ≡ k
  pub values : (n : ℕ) (x : Entry) → entry_at R n ≡ Some x → is_value x.kind ≡ true → (name : List ℕ) → mentions x.signature name ≡ false
  pub masks : (n k : ℕ) (x y : Entry) → entry_at R n ≡ Some x → is_value x.kind ≡ true → x.owner ≡ Some (record { 0 = k }) → entry_at R k ≡ Some y
      → x.mask ≡ y.mask

-- What is tried over each view with one hidden entry added, and the types that its declaration names, is refused just so.
abbrev pub Stays : {A : Type 0} → RegistrationList → ℕ → (RegistrationList → Option A) → A → Type 0
Stays R m again r = (x : ℕ) → is_hidden R m x ≡ true → again (seen_with R m x) ≡ Some r

-- If a refusal in a body is one of the six kinds and asks nothing, it stays.
abbrev pub IfSilentStays : RegistrationList → ℕ → (RegistrationList → Option TypingRefusal) → TypingRefusal → Type 0
IfSilentStays R m again r = r.asks ≡ None → refuses_use r.kind ≡ true → Stays R m again r

-- The refusal is that of a body or an initializer of the scripts, and stays.
pub record IsBeyondHelp (R : RegistrationList) (m : ℕ) (ss : List Source) (r : Refused) : Type 0 where
  pub part : Part
  pub written : Contains (parts_of ss) part
  pub refused : let V = seen R m in filter_map refusal_in (judged V (names_of V (declarations_of ss)) part) ≡ r ∷ []
  pub stays : let V = seen R m in Stays R m (λ W. part_tried V W (names_of V (declarations_of ss)) part) r

-- A refusal of the six kinds asks something, or is beyond help.
abbrev pub IsHelpedOrBeyond : RegistrationList → ℕ → List Source → Refused → Type 0
IsHelpedOrBeyond R m ss r = r.asks ≡ None → refuses_use r.error.kind ≡ true → IsBeyondHelp R m ss r

-- What is said of runs of typed programs (docs/CLAIMS.md, "What a script means").
use Rattle.std.specs.Prelude.{◌≡◌, ◌≢◌, ℕ, List, [], ◌∷◌, Some, slice_get}
use Rattle.ang_kinds.specs.declared.fault.Fault.{Fault}
use Rattle.ang_kinds.specs.declared.fault.Fault.TheVariants.{Null, DivideByZero, DivideOverflow, Unbound, Budget, Depth, Host, BadAnswer, NoObject, Memory, Tally}
use Rattle.ang_typed.specs.Typed as t
use Rattle.ang_meaning.specs.declared.slot.Slot.{Slot}
use Rattle.ang_meaning.specs.declared.routine.Routine.{Routine}
use Rattle.ang_meaning.specs.declared.routine.Passing.{Passing}
use Rattle.ang_meaning.specs.declared.routine.Passing.TheVariants.{In, Out, Object}
use Rattle.ang_meaning.specs.World.{World}
use Rattle.ang_meaning.specs.Environment.{Environment}
use Rattle.ang_meaning.specs.Results.{Reply, Yields, Raises}
use Rattle.ang_source.specs.Meaning.{of_global, Codes, codes_of, code_or, passings_in, heading_among, class_among, routine, called_with, initialized_all}
use Rattle.ang_source_typed.specs.Types.{SlotType, Number, Modules, IsGood}
use Rattle.ang_source_typed.specs.TypedProgram.{Parameter, Signature, types_of, HasSignature, IsImport, TypedProgram}
use Rattle.ang_source_typed.specs.Guarded.{Guard, misfits, as_meant, causes}
use Rattle.ang_source_typed.specs.Guarded as guarded

-- ---- which runs

-- a setting has the bodies, the methods' headings and the classes of this tree for module m
pub record HasTree (z : Environment) (m : ℕ) (p : t.Program) : Type 0 where
  pub bodies : (k : ℕ) → z.params (routine m k) ≡ slice_get (passings_in p) k
  pub slots : (s : ℕ) → z.slot m s ≡ heading_among p.methods s
  pub classes : (c : ℕ) → z.class m c ≡ class_among p.classes c

-- Each module is typed, and an import leads to a function of the types that it is declared with. So no object of scripts passes by an import: its type names
-- the module.
pub record IsTypedSetting (z : Environment) (ms : Modules) : Type 0 where
  pub trees : (m : ℕ) → HasTree z m (ms m).program
  pub programs : (m : ℕ) → TypedProgram z ms m
  pub links : (m i : ℕ) (g : Routine) (s : Signature) → z.linked m i ≡ Some g → IsImport z ms m i s → HasSignature z ms g.home g.number s

-- the bodies of these modules
abbrev pub sources : Modules → Codes
sources ms g = code_or (slice_get (codes_of (ms g.home).program) g.number)

-- the body is the initializer of a global
pub record IsInitializer (ms : Modules) (g : Routine) : Type 0 where
  pub global : ℕ
  pub value : t.Expr
  pub there : slice_get (codes_of (ms g.home).program) g.number ≡ Some (of_global global value)

abbrev pub AreInitializers : Modules → List Routine → Type 0
AreInitializers ms [] = Unit {0}
AreInitializers ms (g ∷ gs) = IsInitializer ms g × AreInitializers ms gs

-- ---- what they leave

-- what the `&out` parameters hold at the end, the last one first
abbrev pub out_by : Passing → SlotType → List SlotType → List SlotType
out_by In ty types = types
out_by Out ty types = ty ∷ types
out_by Object ty types = types

abbrev pub out_types : List Parameter → List SlotType
out_types [] = []
out_types (p ∷ ps) = out_by p.passing p.type (out_types ps)

-- The value and the `&out` values are of their types, and a fault leaves nothing; either way all other places are typed.
abbrev pub IsGoodReply : Environment → Modules → Signature → Reply → Type 0
IsGoodReply z ms s (Yields v outs t w) = IsGood z ms (s.result ∷ out_types s.params) (v ∷ outs) w
IsGoodReply z ms s (Raises f w) = IsGood z ms [] [] w

-- a run that gives no value that is taken
abbrev pub initializer_signature : Signature
initializer_signature = record { params = []; result = Number }

-- ---- the laws

-- A run of typed programs is the same whatever a misfit does, so it meets none; and it leaves all places typed.
abbrev pub CallsMeetNoMisfit : Type 0
CallsMeetNoMisfit = (z : Environment) (ms : Modules) (y : Guard) → IsTypedSetting z ms
    → (budget : ℕ) (g : Routine) (s : Signature) (vs : List Slot) (w : World) → HasSignature z ms g.home g.number s → IsGood z ms (types_of s.params) vs w
    → (guarded.called_with (misfits y) z (sources ms) budget g vs w ≡ called_with z (sources ms) budget g vs w)
    × IsGoodReply z ms s (called_with z (sources ms) budget g vs w)

abbrev pub InitializersMeetNoMisfit : Type 0
InitializersMeetNoMisfit = (z : Environment) (ms : Modules) (y : Guard) → IsTypedSetting z ms
    → (gs : List Routine) (ticks : ℕ) (w : World) → AreInitializers ms gs → IsGood z ms [] [] w
    → (guarded.initialized_all (misfits y) z (sources ms) gs ticks w ≡ initialized_all z (sources ms) gs ticks w)
    × IsGoodReply z ms initializer_signature (initialized_all z (sources ms) gs ticks w)

-- Where each guard does what the meaning says, the guarded meaning is the meaning, of every program, typed or not.
abbrev pub CallsAreAsMeant : Type 0
CallsAreAsMeant = (z : Environment) (codes : Codes) (budget : ℕ) (g : Routine) (vs : List Slot) (w : World)
    → guarded.called_with as_meant z codes budget g vs w ≡ called_with z codes budget g vs w

abbrev pub InitializersAreAsMeant : Type 0
InitializersAreAsMeant = (z : Environment) (codes : Codes) (gs : List Routine) (ticks : ℕ) (w : World)
    → guarded.initialized_all as_meant z codes gs ticks w ≡ initialized_all z codes gs ticks w

-- ---- what `Null` and `Unbound` come of

-- the fault `Null` by one name, and `Unbound` by another
abbrev pub named : (null unbound : Fault) → Fault → Fault
named n u Null = n
named n u DivideByZero = DivideByZero
named n u DivideOverflow = DivideOverflow
named n u Unbound = u
named n u Budget = Budget
named n u Depth = Depth
named n u (Host k) = Host k
named n u BadAnswer = BadAnswer
named n u NoObject = NoObject
named n u Memory = Memory
named n u Tally = Tally

abbrev pub reply_named : (null unbound : Fault) → Reply → Reply
reply_named n u (Yields v outs t w) = Yields v outs t w
reply_named n u (Raises f w) = Raises (named n u f) w

-- `Null` comes of null alone, where an object is wanted, and `Unbound` of an import alone that leads nowhere. For where null has another fault, and such an import
-- a third one, a run of typed programs is the same but for these two names. What fault a misfit has does not matter.
abbrev pub CallsTellCauses : Type 0
CallsTellCauses = (z : Environment) (ms : Modules) (misfit null unbound : Fault) → misfit ≢ Null → misfit ≢ Unbound → IsTypedSetting z ms
    → (budget : ℕ) (g : Routine) (s : Signature) (vs : List Slot) (w : World) → HasSignature z ms g.home g.number s → IsGood z ms (types_of s.params) vs w
    → guarded.called_with (causes misfit null unbound) z (sources ms) budget g vs w ≡ reply_named null unbound (called_with z (sources ms) budget g vs w)

abbrev pub InitializersTellCauses : Type 0
InitializersTellCauses = (z : Environment) (ms : Modules) (misfit null unbound : Fault) → misfit ≢ Null → misfit ≢ Unbound → IsTypedSetting z ms
    → (gs : List Routine) (ticks : ℕ) (w : World) → AreInitializers ms gs → IsGood z ms [] [] w
    → guarded.initialized_all (causes misfit null unbound) z (sources ms) gs ticks w ≡ reply_named null unbound (initialized_all z (sources ms) gs ticks w)

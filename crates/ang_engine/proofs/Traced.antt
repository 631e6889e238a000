-- Where the frames of a trace stand: at tokens of the sections that their modules were built of.
use Rattle.std.proofs.Common.{◌≡◌, ◌≤◌, refl, ap, sym, ◌∙◌, subst, ℕ, List, length, arith, map, Option, Some, None, option_map}
use Rattle.std.specs.Prelude.{IfSome, slice_get}
use Rattle.std.specs.Option.{option_and_then}
use Rattle.std.proofs.lemmas.Option.{IfSome_then}
use Rattle.ang_kinds.specs.declared.place.Place.{Place}
use Rattle.ang_view.specs.Registration.{RegistrationList}
use Rattle.ang_typed.specs.declared.program.TypedParameter.{TypedParameter}
use Rattle.ang_typed.specs.Typed as t
use Rattle.ang_typed.specs.View.{view_typed}
use Rattle.ang_names_known.specs.declared.names.Family.{Family}
use Rattle.ang_names_known.specs.declared.names.Names.{Names}
use Rattle.ang_names_known.specs.declared.names.ScriptFunction.{ScriptFunction}
use Rattle.ang_names_listed.specs.Sources.{Source}
use Rattle.ang_check.specs.Bodies.{method_at, constructor_at}
use Rattle.ang_check.specs.Typing.{typed_parameters}
use Rattle.ang_check_sound.specs.Checked.{HasNames, module_in}
use Rattle.ang_check_sound.specs.Placed.{ArePlaced}
use Rattle.ang_engine_build.specs.Build.{Compiled, build_of}
use Rattle.ang_engine_build.specs.Placed.{IsTokenPlace, IsPlaced}
use Rattle.ang_engine_build.proofs.Placed.{program-placed, program-counted}
use Rattle.ang_engine_build.proofs.Programs.{program-named}
use Rattle.ang_engine_modules.specs.declared.modules.LoadedModule.{LoadedModule}
use Rattle.ang_engine_modules.specs.declared.traced.TraceFrame.{TraceFrame}
use Rattle.ang_engine_modules.specs.Traced.{StandsIn, frame_of, frame_in}
use Rattle.ang_engine_modules.proofs.Frames.{IsOfEach, frame_holds}
use Rattle.ang_engine_modules.proofs.PlaceLists.{get-map, map-get, get-front}
use Rattle.ang_engine_modules.proofs.Statements.{function_lists, none_of_initializers}
use Rattle.ang_engine.specs.Engines.{resolved_in}

-- the tree has the function of each number that the names have
function_there : (V : RegistrationList) (names : Names) (ss : List Source) (p : t.Program) (n : ℕ) (f : ScriptFunction) → HasNames V names ss p
    → slice_get names.functions n ≡ Some f → (g : t.TypedFunction) × (slice_get p.functions n ≡ Some g)
function_there V names ss p n f has at =
    let ps : List TypedParameter = typed_parameters f in
    let named : slice_get (module_in V names).parameters n ≡ Some ps = get-front (map typed_parameters names.functions) _ n ps (get-map typed_parameters names.functions n f at) in
    let here = map-get (λ (g : t.TypedFunction). g.parameters) p.functions n ps (ap (λ xs. slice_get xs n) has.parameters ∙ named) in
    (here.item, here.at)

module _ (sight : RegistrationList) (sections : List (List ℕ)) (l : LoadedModule) (built : build_of sight sections ≡ Compiled (resolved_in l)) (n : ℕ) where
  -- A name is read in some section, and so is each statement of body n in that section.
  record IsRead (name : Place) : Type 0 where
    name_is : IsTokenPlace sections name
    statements_are : (p : Place) → StandsIn l n name.sect p → IsTokenPlace sections p

  body_read : (name : Place) (g : t.TypedFunction) → slice_get (view_typed l.tree).functions n ≡ Some g → IsPlaced sections name g.positions → IsRead name
  body_read name g there placed =
      let counted : t.statement_count g.body ≡ length g.positions = program-counted sight sections (resolved_in l) built n g there in
      record {
        name_is = placed.name_is;
        statements_are = λ p stands.
            let s = function_lists l n name.sect p g there (omega (arith, counted)) stands in
            subst (IsTokenPlace sections) (sym s.2) (placed.statements_are s.0 s.1);
      }

  all_read : IsOfEach IsRead l n
  all_read =
      let placed : ArePlaced (IsPlaced sections) l.names (view_typed l.tree) = program-placed sight sections (resolved_in l) built in
      let named = program-named sight sections (resolved_in l) built in
      record {
        function = λ f at.
            let g = function_there sight l.names named.sources (view_typed l.tree) n f named.names at in
            body_read f.place g.0 g.1 (placed.functions n f g.0 at g.1);
        method = λ c m f y there at has.
            let found : method_at sight l.names c m ≡ Some y = ap (option_and_then (λ (x : Family). slice_get x.methods m)) there ∙ at in
            let g = (named.names.bodies.methods c m n y found has).typed in
            body_read y.function.place g.0 g.2 (placed.methods c m n f y g.0 there at has g.2);
        constructor = λ c m f y there at has.
            let found : constructor_at sight l.names c m ≡ Some y = ap (option_and_then (λ (x : Family). slice_get x.constructors m)) there ∙ at in
            let g = (named.names.bodies.constructors c m y found).typed in
            body_read y.function.place g.0 (ap (slice_get (view_typed l.tree).functions) (sym has) ∙ g.2) (placed.constructors c m f y g.0 there at g.2);
        initializer = λ i g past at.
            record {
              name_is = (placed.globals i g at).name_is;
              statements_are = λ p stands. absurd (none_of_initializers l n g.place.sect p past stands);
            };
      }

  pub trace_placed : (r : Option TraceFrame) → option_map frame_of r ≡ frame_in l n → IfSome r (λ f. IfSome f.place (StandsIn l n f.declared.sect))
      → IfSome r (λ f. IsTokenPlace sections f.declared × IfSome f.place (IsTokenPlace sections))
  trace_placed None named stands = tt
  trace_placed (Some f) named stands =
      let read : IsRead f.declared = frame_holds IsRead l n all_read (frame_of f) (sym named) in
      (read.name_is, IfSome_then f.place stands read.statements_are)

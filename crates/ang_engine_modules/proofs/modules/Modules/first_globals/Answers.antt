use Rattle.std.proofs.Common.{◌≡◌, ◌∙◌, sym, ap, map as list_map}
use Rattle.std.specs.Option.{option_copied}
use Rattle.std.proofs.lemmas.Result.{IfOk-weaker}
use Rattle.ang_source.specs.Meaning.{default_in}
use Rattle.ang_engine_modules.specs.Executed.{first_globals}
use Rattle.ang_engine_modules.specs.Loaded.{modules_of}
use Rattle.ang_engine_modules.specs.Modules.{module_at}
use Rattle.ang_engine_modules.proofs.Uses.{globals_begin}
use Rattle.ang_engine_modules.proofs.modules.Modules.first_globals.Goals as goal

pub returns-in-Some : goal.returns-in-Some
returns-in-Some c =
    let same : list_map default_in c.globals.result.now ≡ first_globals (module_at (modules_of c.args.self.now) c.args.home).tree =
    globals_begin c.args.self.now c.args.home c.in-Some.loaded.now c.globals.result.now c.globals.ensures.exact
    (sym (ap option_copied c.in-Some.is) ∙ c.loaded.ensures.exact) in
    record {
      exact = IfOk-weaker c.defaults.result (λ v. v.items ≡ list_map default_in c.globals.result.now)
          (λ v. v.items ≡ first_globals (module_at (modules_of c.args.self.now) c.args.home).tree) (λ v is. is ∙ same) c.defaults.ensures.exact;
    }

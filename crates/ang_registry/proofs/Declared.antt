-- What a text declares, by what its parser answered.
use Rattle.std.proofs.Common.{◌≡◌, ◌≢◌, Result, Ok, Err, IfOk, IfErr, ap, sym}
use Rattle.ang_kinds.specs.declared.types.Signature.{Signature}
use Rattle.ang_decl.specs.declared.error.DeclError.{DeclError}
use Rattle.ang_decl.specs.declared.error.DeclError.TheVariants.{Memory}
use Rattle.ang_registry.specs.Declarations.{signature_in}

-- an answer that is no want of memory is the stated one
pub signature_in-stated : (r stated : Result Signature DeclError)
    → IfOk r (λ s. stated ≡ Ok s) → IfErr r (λ e. e ≢ Memory → stated ≡ Err e) → IfErr r (λ e. e ≢ Memory)
    → signature_in r ≡ signature_in stated
signature_in-stated (Ok s) stated h g k = ap signature_in (sym h)
signature_in-stated (Err e) stated h g k = ap signature_in (sym (g k))

use Rattle.std.proofs.Common.{◌≡◌, ◌+◌, ◌∷◌, Err, is_ok, refl, sym, ap, ◌∙◌, arith}
use Rattle.ang_meaning.specs.Results.{drop_some}
use Rattle.ang_code.specs.Machine.{At, did}
use Rattle.ang_vm_stack.specs.Stacks.{values}
use Rattle.ang_vm_stack.specs.Arms.{done}
use Rattle.ang_vm_steps.proofs.TopValues.{put_value}
use Rattle.ang_vm_steps.proofs.doing.put_answer.Goals as goal

pub returns-in-Ok : goal.returns-in-Ok
returns-in-Ok c =
    let s = values c.args.stack.now c.args.top in
    record {
      exact = λ room f pc fr t w. ap (λ a. did (done a w) s (λ v u. At f (pc + 1) room (v ∷ drop_some c.args.count s) fr t u)) c.in-Ok.is
          ∙ put_value c.args.stack.now _ c.args.top c.args.count c.in-Ok.value c.requires.in_use c.requires.within c.push.ensures.pushed room f pc fr t w;
      in_room = omega arith;
      ok = sym (ap is_ok c.in-Ok.is);
      fails = λ x e. absurd (let y : ⊥ = cc in y);
    }

pub returns-in-Err : goal.returns-in-Err
returns-in-Err c =
    let s = values c.args.stack.now c.args.top in
    record { exact = λ room f pc fr t w. ap (λ a. did (done a w) s (λ v u. At f (pc + 1) room (v ∷ drop_some c.args.count s) fr t u)) c.in-Err.is; in_room = tt; ok = sym (ap is_ok c.in-Err.is); fails = λ x e. (c.in-Err.is ∙ (let same : c.in-Err.fault ≡ x = cc in ap Err same), refl) }

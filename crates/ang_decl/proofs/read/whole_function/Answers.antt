use Rattle.std.proofs.Common.{◌≡◌, false, List, [], ◌∷◌, length, Err, refl, ap, sym, ◌∙◌}
use Rattle.std.specs.Prelude.{◌==◌}
use Rattle.ang_lex.specs.declared.token.Token.{Token}
use Rattle.ang_parse_read.specs.Read.{at, and_then}
use Rattle.ang_parse_read.specs.Law.{finish, all_of}
use Rattle.ang_decl.specs.declared.tree.HostFunction.{HostFunction}
use Rattle.ang_decl.proofs.read.whole_function.Goals as goal

left_over : (f : HostFunction) (s : List Token) → (length s == 0) ≡ false → finish f s ≡ Err (at s)
left_over f [] h = absurd cc
left_over f (t ∷ s) h = refl

pub returns-then-not-is_empty : goal.returns-then-not-is_empty
unfolding all_of
returns-then-not-is_empty c =
    record {
      reads =
          ap (λ v. and_then v finish) c.in_ok-found.ensures.reads ∙ left_over c.in_ok-found.found c.in_ok-found.rest.now (sym c.is_empty.ensures ∙ c.if-not-is_empty.true);
    }

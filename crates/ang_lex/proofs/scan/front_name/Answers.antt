use Rattle.std.proofs.Common.{take, refl, ◌∙◌, ap}
use Rattle.std.proofs.lemmas.List.{length-take-le}
use Rattle.ang_lex.specs.declared.token.TokenKind.TheVariants.{Name}
use Rattle.ang_lex.specs.Fronts.{front_name}
use Rattle.ang_lex.specs.Words.{reserved_words, lookup}
use Rattle.ang_lex.proofs.Tables.{lookup-filter}
use Rattle.ang_lex.proofs.scan.front_name.Goals as goal

pub returns-clause-value : goal.returns-clause-value
unfolding front_name
returns-clause-value c =
    let len = c.name_len-len.result in
    let rest = c.args.rest.now in
    let size = length-take-le len rest c.name_len-len.ensures.within in
    let kind = ap (λ es. lookup es (take len rest) Name) c.words_of_length.ensures.exact ∙ lookup-filter len reserved_words (take len rest) Name size in
    rw (c.lookup.ensures.exact, kind, c.name_len-len.ensures.value) refl

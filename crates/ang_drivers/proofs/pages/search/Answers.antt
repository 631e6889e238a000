use Rattle.std.proofs.Common.{rules}
use Rattle.std.proofs.lemmas.List.Sorted.{answers_always}
use Rattle.ang_drivers.proofs.Paging.{searched}
use Rattle.ang_drivers.proofs.pages.search.Goals as goal

-- the closure gives an entry's key
pub returns : goal.returns
returns g c =
    let facts = c.binary_search_by_key.ensures in
    let by_key = facts.position (λ entry. entry.0) (answers_always _ _ _ (λ f a r g called. search rules)) in
    searched c.args.entries.now c.requires.rises c.args.key _ facts.bound by_key

use Rattle.std.proofs.Common.{◌∙◌, ap, map, sym, rules}
use Rattle.std.proofs.lemmas.List.Sorted.{answers_always}
use Rattle.ft_items.specs.Sets.{met, has}
use Rattle.ft_assume.specs.Atoms.{atom_of}
use Rattle.ft_rules.proofs.Own.{own_by}
use Rattle.ft_rules.proofs.outside.is_own.Goals as goal

pub returns-in-Met : goal.returns-in-Met
returns-in-Met c =
    let by_key = c.binary_search_by_key.ensures.position (λ p. p) (answers_always _ _ _ (λ f a r g called. search rules)) in
    c.is_ok.ensures.value ∙ own_by c.args.own.now c.in-Met.m c.binary_search_by_key.result c.requires by_key
    ∙ ap (λ a. has (atom_of a) (map met c.args.own.now)) (sym c.in-Met.is)

use Rattle.std.proofs.Common.{rules, tests}
use Rattle.std.proofs.lemmas.Iterator.{YieldsList-from_slice}
use Rattle.std.proofs.lemmas.Iterator.Consumers.{count_from_yields_List}
use Rattle.std.proofs.lemmas.Iterator.Search.{YieldsList-from_take_while}
use Rattle.unicode_ident.specs.Ident.{is_xid_continue}
use Rattle.ft_grammar.proofs.Runs.{run-counted}
use Rattle.ft_lexer.proofs.front.name_run.Goals as goal

pub returns-clause-run : goal.returns-clause-run
returns-clause-run c =
    let text = c.args.text.now in
    run-counted is_xid_continue text c.count.result
    (count_from_yields_List c.take_while.result _ c.count.ensures.ran
    (YieldsList-from_take_while _ is_xid_continue (YieldsList-from_slice text (cc)) c.take_while.ensures.closure c.take_while.ensures.done
    (λ x b q k. search (rules, tests))))

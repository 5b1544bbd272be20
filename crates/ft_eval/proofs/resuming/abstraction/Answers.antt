use Rattle.std.proofs.Common.{rules, ◌≡◌, ◌∷◌, ap}
use Rattle.ft_meaning.specs.Values.{after}
use Rattle.ft_meaning.specs.Forms.{abstract_value}
use Rattle.ft_telling.specs.Telling.{variable_at}
use Rattle.ft_running.specs.Evaluation.{Evaluation, environment_of, value_over, run_of}
use Rattle.ft_running.proofs.Further.{environment_further}
use Rattle.ft_eval.specs.Frames.{turned, value_of}
use Rattle.ft_eval.proofs.Resumed.{abstraction_turns}
use Rattle.ft_eval.proofs.resuming.abstraction.Goals as goal

pub returns-in_ok-inner-in-Ok-clause-turns : goal.returns-in_ok-inner-in-Ok-clause-turns
returns-in_ok-inner-in-Ok-clause-turns c =
    let S = c.args.state.now in
    let T = c.new_term.new.self in
    let U = c.bind.new.self in
    let I = environment_of U c.in_ok-inner-in-Ok.inner in
    let turns : turned U c.wait.result ≡ after (value_of c.args.f.now I (run_of U)) (λ w. abstract_value c.args.at (variable_at U.list c.in-Ok.y) w) = search rules in
    let means : I ≡ (c.args.x.now.name, value_over T c.in-Ok.j) ∷ environment_of T c.args.scope = search rules in
    abstraction_turns S T U c.args.at c.args.x.now.name c.args.f.now (value_over S c.args.v)
    (environment_of S c.args.scope) (environment_of T c.args.scope) I c.in-Ok.y c.in-Ok.j (turned U c.wait.result)
    c.in-Ok.ensures'.tells.0
    (environment_further S T c.args.scope c.holds.ensures c.new_term.ensures.further c.requires.scope)
    means
    (ap run_of c.in_ok-inner-in-Ok.ensures.adds)
    (ap (λ (e : Evaluation). e.list) c.in_ok-inner-in-Ok.ensures.adds)
    turns

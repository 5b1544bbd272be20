use Rattle.ft_export.proofs.Joining.{on_both}
use Rattle.ft_export.proofs.Encoding.{thesis_line}
use Rattle.ft_export.proofs.lines.push_judgement.Goals as goal

pub returns : goal.returns
returns c = record {
  ok = on_both c.push_grounds.result (λ up set step h. thesis_line c.args.terms.now c.args.x.now c.args.set.now c.args.step.now c.args.out.now c.push_str.new.self c.push_thesis.new.out c.push_grounds.new.out
      c.in_ok-push_thesis.ensures.fits up set step c.in_ok-push_str.ensures.ok c.in_ok-push_thesis.ensures.ok h) c.push_grounds.ensures.ascending c.push_grounds.ensures.set c.push_grounds.ensures.step c.push_grounds.ensures.ok;
}

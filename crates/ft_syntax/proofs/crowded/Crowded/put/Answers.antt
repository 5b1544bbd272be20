use Rattle.ft_syntax.proofs.Crowding.{put_keeps}
use Rattle.ft_syntax.proofs.crowded.Crowded.put.Goals as goal

pub returns-clause-others : goal.returns-clause-others
returns-clause-others c = put_keeps c.args.self.now (record { places = c.insert.new.self }) c.args.spelling c.args.place c.in_ok-insert.ensures.entries

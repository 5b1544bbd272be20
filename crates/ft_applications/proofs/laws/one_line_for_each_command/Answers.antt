use Rattle.ft_applications.proofs.OneEach.{one_line_each, one_line_each_run}
use Rattle.ft_applications.proofs.laws.one_line_for_each_command.Goals as goal

pub returns : goal.returns
returns c = record { all = one_line_each c.a_text_is_made_of_its_tokens.ensures; ended = one_line_each_run c.a_text_is_made_of_its_tokens.ensures }

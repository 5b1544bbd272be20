use Rattle.ft_telling.proofs.Calls.{tells_judgement, tells_boundary, tells_statement, tells_one, tells_two}
use Rattle.ft_telling.proofs.laws.calls_tell.Goals as goal

pub returns : goal.returns
returns c = record { judgement = tells_judgement; boundary = tells_boundary; statement = tells_statement; one = tells_one; two = tells_two }

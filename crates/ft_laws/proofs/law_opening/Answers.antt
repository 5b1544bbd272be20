use Rattle.ft_laws.proofs.Opens.{open-close, close-open}
use Rattle.ft_laws.proofs.Statements.{opened-closed, closed-opened}
use Rattle.ft_laws.proofs.law_opening.Goals as goal

pub returns : goal.returns
returns c = record { open_undoes_close = λ k v e c. open-close e k v c; close_undoes_open = λ k v e w. close-open e k v w; open_undoes_close_in_statement = λ v A x c. opened-closed x A v c; close_undoes_open_in_statement = λ v A x w. closed-opened x A v w }

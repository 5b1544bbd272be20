-- Inputs that are read whole.
use Rattle.std.proofs.Common.{◌≡◌, ◌∙◌, sym, ap, subst, ℕ, List, [], ◌++◌, Option, Some, None, option_map, IfSome, append-nil}
use Rattle.ft_streams.specs.Streams.{Gives, IsAtEnd}

-- what was told of the input is what was read, where nothing is left
pub all_read : (left rest : Option (List ℕ)) (piece : List ℕ) → Gives left piece rest → IsAtEnd rest → IfSome left (λ bytes. bytes ≡ piece)
all_read None rest piece h e = tt
all_read (Some bs) None piece h e = cc
all_read (Some bs) (Some r) piece h e = let same : bs ≡ piece ++ r = cc in same ∙ ap (λ r. piece ++ r) e ∙ append-nil piece

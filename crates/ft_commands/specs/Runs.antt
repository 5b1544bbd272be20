-- The runs of a command, one binder and one premise at a time.
use Rattle.std.specs.Prelude.{[], ◌∷◌}
use Rattle.ft_items.specs.Store.{Assertion}
use Rattle.ft_reference.specs.Declare.{Draft}
use Rattle.ft_reference.specs.Nucleus as reference
use Rattle.ft_meaning.specs.Trees.{Binder, Premise}
use Rattle.ft_meaning.specs.Values.{Environment, Run, ◌>>=◌, pure}
use Rattle.ft_meaning.specs.Forms.{meaning, judged}
use Rattle.ft_meaning.specs.Commands.{Bound, bind_all, boundary_by, abstract_all, add_premise}
use Rattle.ft_running.specs.Asked.{new_term}

-- a binder: its variable, and the named values after it
abbrev pub bind_one : Binder → Environment → Run (Bound × Environment)
bind_one b G = meaning b.domain G >>= new_term b.name.at b.name.name
    >>= λ p. pure (record { at = b.name.at; variable = p.0 }, (b.name.name, p.1) ∷ G)

-- the boundary of a premise, with the variables of its binders bound
abbrev pub premise_boundary : Premise → Environment → Run Assertion
premise_boundary p G = do
  (H, xs) ← bind_all p.binders G []
  b ← boundary_by p.body_at p.body H
  abstract_all xs b

-- a premise: the draft and the named values after it
abbrev pub declare_premise : Premise → Draft → Environment → Run (Draft × Environment)
declare_premise p d G = do
  b ← premise_boundary p G
  (M, e) ← add_premise p.at d p.name.name b
  v ← judged p.at (λ W. reference.generic W M)
  pure (e, (p.name.name, v) ∷ G)

-- Expressions that are gone into.
use Rattle.std.proofs.Common.{◌≡◌, ◌∙◌, ap, sym, refl, subst, Ok, Result}
use Rattle.ft_meaning.specs.Trees.{Form, let_in, if_then, match_with, handle_with, abstraction, cons_of, one, two, argument, congruence, perform, call, substitution, truth_of, unit_of, pair_of, none_of, nil_of, place}
use Rattle.ft_meaning.specs.Values.{Environment, after, spend, State as Running}
use Rattle.ft_meaning.specs.Forms.{meaning as meaning_of}
use Rattle.ft_running.specs.Evaluation.{Evaluation, run_of}
use Rattle.ft_running.specs.Telling.{TellsEnd}
use Rattle.ft_running.specs.declared.ending.End.{End}
use Rattle.ft_eval.specs.Begun.{begun}
use Rattle.ft_eval.specs.Frames.{TurnsInto}
use Rattle.ft_eval.specs.declared.frames.Turn.{Turn}
use Rattle.ft_eval.proofs.Chains.{ends_after}

-- a form spends a unit and then begins
pub spent_first : (e : Form) (G : Environment) (s : Running)
    → meaning_of e G s ≡ after (spend (place e) s) (λ u. begun e G)
spent_first (let_in at x e f) G s = refl
spent_first (if_then at e f g) G s = refl
spent_first (match_with at e cs) G s = refl
spent_first (handle_with at e c hs) G s = refl
spent_first (abstraction at x e f) G s = refl
spent_first (cons_of at e f) G s = refl
spent_first (one at w e) G s = refl
spent_first (two at w e f) G s = refl
spent_first (argument at e i) G s = refl
spent_first (congruence at R e f) G s = refl
spent_first (perform at op e) G s = refl
spent_first (call at x es) G s = refl
spent_first (substitution at e es) G s = refl
spent_first (truth_of at b) G s = refl
spent_first (unit_of at) G s = refl
spent_first (pair_of at e f) G s = refl
spent_first (none_of at A) G s = refl
spent_first (nil_of at A) G s = refl

-- after the unit
pub entered : (S T U : Evaluation) (e : Form) (G H : Environment) (r : Result Turn End)
    → spend (place e) (run_of S) ≡ (Ok tt, run_of T) → H ≡ G
    → TurnsInto (begun e H (run_of T)) r U → TurnsInto (meaning_of e G (run_of S)) r U
entered S T U e G H r spent same h =
    let is : begun e H (run_of T) ≡ meaning_of e G (run_of S) =
    ap (λ G. begun e G (run_of T)) same
    ∙ sym (spent_first e G (run_of S) ∙ ap (λ o. after o (λ u. begun e G)) spent) in
    subst (λ o. TurnsInto o r U) is h

-- without a unit
pub unspent : (S T : Evaluation) (e : Form) (G : Environment) (end : End)
    → TellsEnd (spend (place e) (run_of S)) end T → TellsEnd (meaning_of e G (run_of S)) end T
unspent S T e G end h =
    subst (λ o. TellsEnd o end T) (sym (spent_first e G (run_of S)))
    (ends_after (spend (place e) (run_of S)) (λ u. begun e G) end T h)

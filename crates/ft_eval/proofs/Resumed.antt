-- Values that were waited for.
use Rattle.std.proofs.Common.{◌≡◌, ◌∙◌, ℕ, List, [], ◌∷◌, ◌++◌, ap, ap₂, sym, refl, Ok, map}
use Rattle.ft_items.specs.Item.{Name}
use Rattle.ft_grammar.specs.declared.syntax.Ast.{Ast}
use Rattle.ft_kernel.specs.State.{IsThesisOf}
use Rattle.ft_apply.specs.Named.{AreThesesOf}
use Rattle.ft_meaning.specs.Trees.{form, forms}
use Rattle.ft_meaning.specs.Values.{Environment, Outcome, Run, after, ◌>>=◌, State as Running}
use Rattle.ft_meaning.specs.Values as meaning
use Rattle.ft_meaning.specs.Forms.{abstract_value, applied}
use Rattle.ft_telling.specs.Telling.{variable_at}
use Rattle.ft_values.specs.Kept.{stated_at}
use Rattle.ft_values.specs.declared.values.Value.{Value}
use Rattle.ft_running.specs.Evaluation.{Evaluation, GoesFurther, run_of, value_over}
use Rattle.ft_running.specs.Asked.{new_term, next_argument, put_at, rule_in, judgements_of, IsRuleOf}
use Rattle.ft_running.proofs.Declared.{rule_means_further, judgements_further}
use Rattle.ft_eval.specs.declared.frames.Arguments.{Arguments}
use Rattle.ft_eval.specs.Frames.{value_of, abstracted, argued, applied_to, filled, filled_in}

-- a judgement more
pub judgements_more : (e : Evaluation) (js : List ℕ) (j : ℕ) → judgements_of e (js ++ j ∷ []) ≡ judgements_of e js ++ stated_at e.list j ∷ []
judgements_more e [] j = refl
judgements_more e (k ∷ js) j = ap (λ as'. stated_at e.list k ∷ as') (judgements_more e js j)

pub theses_more : (e : Evaluation) (js : List ℕ) (j : ℕ) → AreThesesOf e.list js → IsThesisOf e.list j → AreThesesOf e.list (js ++ j ∷ [])
theses_more e [] j h is = (is, tt)
theses_more e (k ∷ js) j h is = (h.0, theses_more e js j h.1 is)

-- the body of an abstraction, after its variable
pub abstraction_turns : (S T U : Evaluation) (at : ℕ) (x : Name) (f : Ast) (v : meaning.Value) (G H I : Environment) (y : ℕ) (j : Value) (o : Outcome meaning.Value)
    → new_term at x v (run_of S) ≡ (Ok (variable_at T.list y, value_over T j), run_of T)
    → H ≡ G → I ≡ (x, value_over T j) ∷ H → run_of U ≡ run_of T → U.list ≡ T.list
    → o ≡ after (value_of f I (run_of U)) (λ w. abstract_value at (variable_at U.list y) w)
    → abstracted at x f G v (run_of S) ≡ o
abstraction_turns S T U at x f v G H I y j o told outer inner run list is =
    ap (λ p. after p (λ y. value_of f ((x, y.1) ∷ G) >>= λ w. abstract_value at y.0 w)) told
    ∙ ap (λ K. after (value_of f K (run_of T)) (λ w. abstract_value at (variable_at T.list y) w)) (ap (λ K. (x, value_over T j) ∷ K) (sym outer) ∙ sym inner)
    ∙ ap₂ (λ s l. after (value_of f I s) (λ w. abstract_value at (variable_at l y) w)) (sym run) (sym list)
    ∙ sym is

-- a term that was put into a value
pub term_turns : (S T : Evaluation) (at : ℕ) (v u : meaning.Value) (es : List Ast) (G H : Environment) (w : Value) (o : Outcome meaning.Value)
    → put_at at v u (run_of S) ≡ (Ok (value_over T w), run_of T) → H ≡ G
    → filled at es H (value_over T w) (run_of T) ≡ o
    → filled_in at v es G u (run_of S) ≡ o
term_turns S T at v u es G H w o told outer is =
    ap (λ p. after p (filled at es G)) told
    ∙ ap (λ K. filled at es K (value_over T w) (run_of T)) (sym outer)
    ∙ is

-- an argument that was given to a rule
pub argued_is : (S T : Evaluation) (a : Arguments) (v : meaning.Value) (G H : Environment) (j : ℕ) (js : List ℕ)
    → next_argument a.place (rule_in S a.rule) (judgements_of S a.given.items) v (run_of S) ≡ (Ok (stated_at T.list j), run_of T)
    → H ≡ G → GoesFurther S T → IsRuleOf S a.rule → AreThesesOf S.list a.given.items → js ≡ a.given.items ++ j ∷ []
    → argued S a G v (run_of S) ≡ applied_to T a.at a.rule (judgements_of T js) a.rest.now H (run_of T)
argued_is S T a v G H j js told outer g rule given all =
    ap (λ p. after p (λ k. applied_to S a.at a.rule (judgements_of S a.given.items ++ k ∷ []) a.rest.now G)) told
    ∙ ap (λ R. applied a.at R (forms (map form a.rest.now)) G (judgements_of S a.given.items ++ stated_at T.list j ∷ []) (run_of T)) (sym (rule_means_further S T a.rule g rule))
    ∙ ap₂ (λ K ks. applied_to T a.at a.rule ks a.rest.now K (run_of T)) (sym outer)
    (ap (λ ks. ks ++ stated_at T.list j ∷ []) (sym (judgements_further S T a.given.items g given))
    ∙ sym (judgements_more T a.given.items j)
    ∙ ap (judgements_of T) (sym all))

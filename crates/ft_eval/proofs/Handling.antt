-- The cases for operations.
use Rattle.std.proofs.Common.{◌≡◌, ◌∙◌, ℕ, List, ◌∷◌, ap, sym, map, true, false, cond, get_or, drop, length, ◌<◌, ◌+◌, subst}
use Rattle.ft_items.specs.Item.{Name}
use Rattle.ft_items.specs.Good.{equal_names}
use Rattle.ft_grammar.specs.declared.syntax.OpCase.{OpCase}
use Rattle.ft_meaning.specs.Trees.{form, handlers}
use Rattle.ft_meaning.specs.Values.{Environment, State as Running}
use Rattle.ft_meaning.specs.Values as meaning
use Rattle.ft_meaning.specs.Forms.{meaning as meaning_of, of_operation}
use Rattle.ft_meaning.proofs.Written.{handler, handler_parts}
use Rattle.ft_eval.specs.Asking.{AsksNothing, HandlersAskNothing}
use Rattle.std.proofs.lemmas.List.{drop_more}

-- by the first case
first_is : (h : OpCase) (hs : List OpCase) (n : Name) (v : meaning.Value) (at : ℕ) (G : Environment) (s : Running)
    → of_operation (handlers (map handler (h ∷ hs))) n v at G s
    ≡ cond (equal_names h.operation.name n) (meaning_of (form h.body) ((h.argument.name, v) ∷ G)) (of_operation (handlers (map handler hs)) n v at G) s
first_is h hs n v at G s = ap (λ c. of_operation (handlers (c ∷ map handler hs)) n v at G s) (handler_parts h)

-- the cases from a place on, of those at hand
pub case_taken : (hs : List OpCase) (i : ℕ) (h : OpCase) (n : Name) (v : meaning.Value) (at : ℕ) (G : Environment) (s : Running)
    → h ≡ get_or hs i h → i < length hs → equal_names h.operation.name n ≡ true
    → of_operation (handlers (map handler (drop i hs))) n v at G s ≡ meaning_of (form h.body) ((h.argument.name, v) ∷ G) s
case_taken hs i h n v at G s is l same =
    ap (λ x. of_operation (handlers (map handler x)) n v at G s) (drop_more hs i h l ∙ ap (λ x. x ∷ drop (i + 1) hs) (sym is))
    ∙ first_is h (drop (i + 1) hs) n v at G s
    ∙ ap (λ b. cond b (meaning_of (form h.body) ((h.argument.name, v) ∷ G)) (of_operation (handlers (map handler (drop (i + 1) hs))) n v at G) s) same

pub case_passed : (hs : List OpCase) (i : ℕ) (h : OpCase) (n : Name) (v : meaning.Value) (at : ℕ) (G : Environment) (s : Running)
    → h ≡ get_or hs i h → i < length hs → equal_names h.operation.name n ≡ false
    → of_operation (handlers (map handler (drop i hs))) n v at G s ≡ of_operation (handlers (map handler (drop (i + 1) hs))) n v at G s
case_passed hs i h n v at G s is l other =
    ap (λ x. of_operation (handlers (map handler x)) n v at G s) (drop_more hs i h l ∙ ap (λ x. x ∷ drop (i + 1) hs) (sym is))
    ∙ first_is h (drop (i + 1) hs) n v at G s
    ∙ ap (λ b. cond b (meaning_of (form h.body) ((h.argument.name, v) ∷ G)) (of_operation (handlers (map handler (drop (i + 1) hs))) n v at G) s) other

-- what they ask
pub cases_ask : (hs : List OpCase) (i : ℕ) (h : OpCase) → h ≡ get_or hs i h → i < length hs
    → HandlersAskNothing (handlers (map handler (drop i hs)))
    → AsksNothing (form h.body) × HandlersAskNothing (handlers (map handler (drop (i + 1) hs)))
cases_ask hs i h is l asks =
    subst (λ c. HandlersAskNothing (handlers (c ∷ map handler (drop (i + 1) hs)))) (handler_parts h)
    (subst (λ x. HandlersAskNothing (handlers (map handler x))) (drop_more hs i h l ∙ ap (λ x. x ∷ drop (i + 1) hs) (sym is)) asks)

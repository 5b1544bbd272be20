-- The parts of rows from a place on: those of what stands there, and those of the rest.
use Rattle.std.proofs.Common.{◌≡◌, ◌∙◌, ◌+◌, ◌<◌, ℕ, List, [], ◌∷◌, ◌++◌, length, get_or, drop, map, refl, sym, ap}
use Rattle.std.specs.Prelude.{Some, flat_map}
use Rattle.std.proofs.lemmas.List.{at_drop_more}
use Rattle.ft_grammar.specs.declared.syntax.Ast.{Ast}
use Rattle.ft_grammar.specs.declared.syntax.Case.{Case}
use Rattle.ft_grammar.specs.declared.syntax.OpCase.{OpCase}
use Rattle.ft_grammar.specs.declared.syntax.ValCase.{ValCase}
use Rattle.ft_grammar.specs.declared.syntax.Binder.{Binder}
use Rattle.ft_grammar.specs.declared.syntax.Premise.{Premise}
use Rattle.ft_grammar.specs.declared.syntax.Command.{Command}
use Rattle.ft_meaning.specs.Trees.{form, forms, cases, and_case, handlers, and_handler, value_case_of, binder, premise, command_of}
use Rattle.ft_meaning.specs.Stages.{SourcePart, parts, all_parts, case_parts, value_parts, handler_parts, binder_parts, command_parts, source_parts, programs}
use Rattle.ft_meaning.proofs.Written as written
use Rattle.ft_meaning.proofs.Written.{case, handler, value}
use Rattle.ft_stages.specs.First.{premise_parts}
use Rattle.ft_stages.proofs.Firsts.{Splits}

-- a row whose parts are those of its members in turn
row_at : {X : Type 0} (F : List X → List SourcePart) (g : X → List SourcePart) → ((x : X) (xs : List X) → F (x ∷ xs) ≡ g x ++ F xs)
    → (xs : List X) (i : ℕ) (x : X) → x ≡ get_or xs i x → i < length xs → Splits (F (drop i xs)) (g x) (F (drop (i + 1) xs))
row_at F g unfolds xs i x is h = record {
  is = at_drop_more F xs i x h ∙ unfolds (get_or xs i x) (drop (i + 1) xs) ∙ ap (λ y. g y ++ F (drop (i + 1) xs)) (sym is);
}

pub forms_at : (es : List Ast) (i : ℕ) (e : Ast) → e ≡ get_or es i e → i < length es
    → Splits (all_parts [] (forms (map form (drop i es)))) (parts [] (form e)) (all_parts [] (forms (map form (drop (i + 1) es))))
forms_at es i e is h = row_at (λ es. all_parts [] (forms (map form es))) (λ e. parts [] (form e)) (λ e es. refl) es i e is h

pub cases_at : (cs : List Case) (i : ℕ) (c : Case) → c ≡ get_or cs i c → i < length cs
    → Splits (case_parts [] (cases (map case (drop i cs)))) (parts [] (form c.body)) (case_parts [] (cases (map case (drop (i + 1) cs))))
cases_at cs i c is h =
    row_at (λ cs. case_parts [] (cases (map case cs))) (λ c. parts [] (form c.body))
    (λ c cs. ap (λ q. case_parts [] (and_case q.0 q.1 (cases (map case cs)))) (written.case_parts c)) cs i c is h

pub handlers_at : (hs : List OpCase) (i : ℕ) (h : OpCase) → h ≡ get_or hs i h → i < length hs
    → Splits (handler_parts [] (handlers (map handler (drop i hs)))) (parts [] (form h.body)) (handler_parts [] (handlers (map handler (drop (i + 1) hs))))
handlers_at hs i h is below =
    row_at (λ hs. handler_parts [] (handlers (map handler hs))) (λ h. parts [] (form h.body))
    (λ h hs. ap (λ q. handler_parts [] (and_handler q.0 q.1 q.2 (handlers (map handler hs)))) (written.handler_parts h)) hs i h is below

pub value_at : (v : ValCase) → value_parts [] (value_case_of (Some (value v))) ≡ parts [] (form v.body)
value_at v = ap (λ q. value_parts [] (value_case_of (Some q))) (written.value_parts v)

pub binders_at : (bs : List Binder) (i : ℕ) (b : Binder) → b ≡ get_or bs i b → i < length bs
    → Splits (binder_parts [] (map binder (drop i bs))) ((programs, b.at) ∷ parts [] (form b.domain)) (binder_parts [] (map binder (drop (i + 1) bs)))
binders_at bs i b is h = row_at (λ bs. binder_parts [] (map binder bs)) (λ b. (programs, b.at) ∷ parts [] (form b.domain)) (λ b bs. refl) bs i b is h

pub premises_at : (ps : List Premise) (i : ℕ) (p : Premise) → p ≡ get_or ps i p → i < length ps
    → Splits (flat_map premise_parts (map premise (drop i ps))) (premise_parts (premise p)) (flat_map premise_parts (map premise (drop (i + 1) ps)))
premises_at ps i p is h = row_at (λ ps. flat_map premise_parts (map premise ps)) (λ p. premise_parts (premise p)) (λ p ps. refl) ps i p is h

pub commands_at : (cs : List Command) (i : ℕ) (c : Command) → c ≡ get_or cs i c → i < length cs
    → Splits (source_parts (map command_of (drop i cs))) (command_parts (command_of c)) (source_parts (map command_of (drop (i + 1) cs)))
commands_at cs i c is h = row_at (λ cs. source_parts (map command_of cs)) (λ c. command_parts (command_of c)) (λ c cs. refl) cs i c is h

-- Cases in turn, and the names that a case enters.
use Rattle.std.proofs.Common.{◌≡◌, ◌≤◌, ◌-◌, ◌∙◌, ◌++◌, ◌<◌, ◌+◌, sym, ap, subst, ℕ, suc, List, ◌∷◌, length, map, get_or, drop, drop-cons, add-one, length-append, arith, Ok, Err}
use Rattle.std.specs.Prelude.{Result, ◌≢◌}
use Rattle.ft_equality.specs.Results.{◌>>=◌, ◌>>◌}
use Rattle.ft_items.specs.Item.{Name}
use Rattle.ft_grammar.specs.declared.syntax.Case.{Case}
use Rattle.ft_grammar.specs.declared.syntax.OpCase.{OpCase}
use Rattle.ft_meaning.specs.Trees.{ValueType, place, pattern, form, cases, handlers, and_case, and_handler}
use Rattle.ft_meaning.specs.Typing.{TypeFault, Scope, type_of, type_of_cases, ensure_cases, ensure_handlers, case_scope, ensure_type, meant_by, ensure_new, with_value}
use Rattle.ft_meaning.proofs.Written.{case, handler, case_parts, handler_parts}
use Rattle.ft_types.specs.declared.fault.TypeWhy.TheVariants as why
use Rattle.ft_types.specs.declared.fault.TypeFault.{TypeFault as AnyFault}
use Rattle.ft_types.specs.declared.types.KnownType.{KnownType}
use Rattle.ft_types.specs.Types.{type_in, Below}
use Rattle.ft_types.specs.Checking.{Checking, scope_of, Finds, Passes, type_of_case, handler_has, fault_of}
use Rattle.ft_types.proofs.Scopes.{drop_front}

-- ---- what follows two steps

goes_on : {A B C E : Type 0} (o : Result A E) (g : A → Result B E) (k : B → Result C E) (b : B) → (o >>= g) ≡ Ok b → (o >>= λ a. g a >>= k) ≡ k b
goes_on (Ok a) g k b h = ap (λ r. r >>= k) h
goes_on (Err e) g k b h = cc

stops : {A B C E : Type 0} (o : Result A E) (g : A → Result B E) (k : B → Result C E) (e : E) → (o >>= g) ≡ Err e → (o >>= λ a. g a >>= k) ≡ Err e
stops (Ok a) g k e h = ap (λ r. r >>= k) h
stops (Err f) g k e h = let same : f ≡ e = cc in ap (λ x. Err x) same

-- ---- cases of a match

pub first_case : (c : Case) (cs : List Case) (A B : ValueType) (s : Scope) → type_of_case (pattern c.pattern) (form c.body) A s ≡ Ok B
    → type_of_cases (cases (map case (c ∷ cs))) A s ≡ (ensure_cases (cases (map case cs)) A B s >> Ok B)
unfolding type_of_case
first_case c cs A B s h =
    ap (λ q. type_of_cases (and_case q.0 q.1 (cases (map case cs))) A s) (case_parts c)
    ∙ goes_on (case_scope (pattern c.pattern) A s) (type_of (form c.body)) (λ B. ensure_cases (cases (map case cs)) A B s >> Ok B) B h

pub first_case_fails : (c : Case) (cs : List Case) (A : ValueType) (s : Scope) (e : AnyFault) → (e.why ≢ why.Memory → type_of_case (pattern c.pattern) (form c.body) A s ≡ Err (fault_of e))
    → e.why ≢ why.Memory → type_of_cases (cases (map case (c ∷ cs))) A s ≡ Err (fault_of e)
unfolding type_of_case
first_case_fails c cs A s e g told =
    ap (λ q. type_of_cases (and_case q.0 q.1 (cases (map case cs))) A s) (case_parts c)
    ∙ stops (case_scope (pattern c.pattern) A s) (type_of (form c.body)) (λ B. ensure_cases (cases (map case cs)) A B s >> Ok B) (fault_of e) (g told)

pub next_case : (c : Case) (cs : List Case) (A B C : ValueType) (s : Scope) → type_of_case (pattern c.pattern) (form c.body) A s ≡ Ok C
    → ensure_cases (cases (map case (c ∷ cs))) A B s ≡ (ensure_type (place (form c.body)) B C >> ensure_cases (cases (map case cs)) A B s)
unfolding type_of_case
next_case c cs A B C s h =
    ap (λ q. ensure_cases (and_case q.0 q.1 (cases (map case cs))) A B s) (case_parts c)
    ∙ goes_on (case_scope (pattern c.pattern) A s) (type_of (form c.body)) (λ C. ensure_type (place (form c.body)) B C >> ensure_cases (cases (map case cs)) A B s) C h

pub next_case_fails : (c : Case) (cs : List Case) (A B : ValueType) (s : Scope) (e : AnyFault) → (e.why ≢ why.Memory → type_of_case (pattern c.pattern) (form c.body) A s ≡ Err (fault_of e))
    → e.why ≢ why.Memory → ensure_cases (cases (map case (c ∷ cs))) A B s ≡ Err (fault_of e)
unfolding type_of_case
next_case_fails c cs A B s e g told =
    ap (λ q. ensure_cases (and_case q.0 q.1 (cases (map case cs))) A B s) (case_parts c)
    ∙ stops (case_scope (pattern c.pattern) A s) (type_of (form c.body)) (λ C. ensure_type (place (form c.body)) B C >> ensure_cases (cases (map case cs)) A B s) (fault_of e) (g told)

-- ---- cases for operations

passes : {A B E : Type 0} (m : Result A E) (n : Result (Unit {0}) E) (g : A → Result B E) (w : B → Result (Unit {0}) E) (r : Result (Unit {0}) E)
    → (m >>= λ a. n >> (g a >>= w)) ≡ Ok tt → (m >>= λ a. n >> (g a >>= λ b. w b >> r)) ≡ r
passes {B = B} {E = E} (Ok a) (Ok u) g w r h = go (g a) h
  where
    go : (o : Result B E) → (o >>= w) ≡ Ok tt → (o >>= λ b. w b >> r) ≡ r
    go (Ok b) h = ap (λ t. t >> r) h
    go (Err e) h = cc
passes (Ok a) (Err e) g w r h = cc
passes (Err e) n g w r h = cc

refuses : {A B E : Type 0} (m : Result A E) (n : Result (Unit {0}) E) (g : A → Result B E) (w : B → Result (Unit {0}) E) (r : Result (Unit {0}) E) (e : E)
    → (m >>= λ a. n >> (g a >>= w)) ≡ Err e → (m >>= λ a. n >> (g a >>= λ b. w b >> r)) ≡ Err e
refuses {B = B} {E = E} (Ok a) (Ok u) g w r e h = go (g a) h
  where
    go : (o : Result B E) → (o >>= w) ≡ Err e → (o >>= λ b. w b >> r) ≡ Err e
    go (Ok b) h = ap (λ t. t >> r) h
    go (Err f) h = let same : f ≡ e = cc in ap (λ x. Err x) same
refuses (Ok a) (Err f) g w r e h = let same : f ≡ e = cc in ap (λ x. Err x) same
refuses (Err f) n g w r e h = let same : f ≡ e = cc in ap (λ x. Err x) same

pub next_handler : (h : OpCase) (hs : List OpCase) (before : List Name) (B : ValueType) (s : Scope)
    → handler_has h.operation h.argument (form h.body) before B s ≡ Ok tt
    → ensure_handlers (handlers (map handler (h ∷ hs))) before B s ≡ ensure_handlers (handlers (map handler hs)) (h.operation.name ∷ before) B s
unfolding handler_has
next_handler h hs before B s k =
    ap (λ q. ensure_handlers (and_handler q.0 q.1 q.2 (handlers (map handler hs))) before B s) (handler_parts h)
    ∙ passes (meant_by s.operations h.operation) (ensure_new h.operation before) (λ p. type_of (form h.body) (with_value h.argument.name p.0 s)) (ensure_type (place (form h.body)) B) (ensure_handlers (handlers (map handler hs)) (h.operation.name ∷ before) B s) k

pub handler_fails : (h : OpCase) (hs : List OpCase) (before : List Name) (B : ValueType) (s : Scope) (e : AnyFault)
    → (e.why ≢ why.Memory → handler_has h.operation h.argument (form h.body) before B s ≡ Err (fault_of e)) → e.why ≢ why.Memory → ensure_handlers (handlers (map handler (h ∷ hs))) before B s ≡ Err (fault_of e)
unfolding handler_has
handler_fails h hs before B s e k told =
    ap (λ q. ensure_handlers (and_handler q.0 q.1 q.2 (handlers (map handler hs))) before B s) (handler_parts h)
    ∙ refuses (meant_by s.operations h.operation) (ensure_new h.operation before) (λ p. type_of (form h.body) (with_value h.argument.name p.0 s)) (ensure_type (place (form h.body)) B) (ensure_handlers (handlers (map handler hs)) (h.operation.name ∷ before) B s) (fault_of e) (k told)

-- ---- the item at a place

item_at : {A : Type 0} (xs : List A) (i : ℕ) (x : A) → x ≡ get_or xs i x → i < length xs → drop i xs ≡ x ∷ drop (i + 1) xs
item_at xs i x is l = drop-cons xs i x l ∙ ap (λ y. y ∷ drop (suc i) xs) (sym is) ∙ ap (λ k. x ∷ drop k xs) (sym (add-one i))

-- what stands for the same as before
pub scope_same : (v w : Checking) → w.top ≡ v.top → w.locals ≡ v.locals → scope_of w ≡ scope_of v
scope_same v w top locals = cc

pub case_same : (c : Case) (A B : ValueType) (s t : Scope) (r : Result ValueType TypeFault) → B ≡ A → t ≡ s → type_of_case (pattern c.pattern) (form c.body) B t ≡ r
    → type_of_case (pattern c.pattern) (form c.body) A s ≡ r
case_same c A B s t r a b h = sym (ap (λ X. type_of_case (pattern c.pattern) (form c.body) X t) a ∙ ap (type_of_case (pattern c.pattern) (form c.body) A) b) ∙ h

pub first_at : (cs : List Case) (c : Case) (A : ValueType) (s : Scope) → c ≡ get_or cs 0 c → 0 < length cs → type_of_cases (cases (map case cs)) A s ≡ type_of_cases (cases (map case (c ∷ drop 1 cs))) A s
first_at cs c A s is l = ap (λ xs. type_of_cases (cases (map case xs)) A s) (item_at cs 0 c is l)

pub case_at : (cs : List Case) (i : ℕ) (c : Case) (A B : ValueType) (s : Scope) → c ≡ get_or cs i c → i < length cs
    → ensure_cases (cases (map case (drop i cs))) A B s ≡ ensure_cases (cases (map case (c ∷ drop (i + 1) cs))) A B s
case_at cs i c A B s is l = ap (λ xs. ensure_cases (cases (map case xs)) A B s) (item_at cs i c is l)

pub handler_at : (hs : List OpCase) (i : ℕ) (h : OpCase) (before : List Name) (B : ValueType) (s : Scope) → h ≡ get_or hs i h → i < length hs
    → ensure_handlers (handlers (map handler (drop i hs))) before B s ≡ ensure_handlers (handlers (map handler (h ∷ drop (i + 1) hs))) before B s
handler_at hs i h before B s is l = ap (λ xs. ensure_handlers (handlers (map handler xs)) before B s) (item_at hs i h is l)

pub handler_same : (h : OpCase) (before : List Name) (A B : ValueType) (s t : Scope) (r : Result (Unit {0}) TypeFault) → B ≡ A → t ≡ s
    → handler_has h.operation h.argument (form h.body) before B t ≡ r → handler_has h.operation h.argument (form h.body) before A s ≡ r
handler_same h before A B s t r a b k = sym (ap (λ X. handler_has h.operation h.argument (form h.body) before X t) a ∙ ap (handler_has h.operation h.argument (form h.body) before A) b) ∙ k

pub cases_same : (cs : List Case) (A B C : ValueType) (s t : Scope) (r : Result (Unit {0}) TypeFault) → B ≡ A → t ≡ s → ensure_cases (cases (map case cs)) B C t ≡ r
    → ensure_cases (cases (map case cs)) A C s ≡ r
cases_same cs A B C s t r a b h = sym (ap (λ X. ensure_cases (cases (map case cs)) X C t) a ∙ ap (ensure_cases (cases (map case cs)) A C) b) ∙ h

pub finds_ok : (o : Result ValueType TypeFault) (t : KnownType) (v w : Checking) → o ≡ Ok (type_in w.types t) → Below (length w.types) t → w.locals ≡ v.locals → Finds o (Ok t) v w
finds_ok o t v w is below locals = (is, below, locals)

-- a fault that is handed on
pub passes_err : (o : Result (Unit {0}) TypeFault) (r : Result (Unit {0}) AnyFault) (e : AnyFault) (v w : Checking) → r ≡ Err e → (e.why ≢ why.Memory → o ≡ Err (fault_of e)) → Passes o r v w
passes_err o r e v w is h = subst (λ r. Passes o r v w) (sym is) h

pub finds_err : (o : Result ValueType TypeFault) (r : Result KnownType AnyFault) (e : AnyFault) (v w : Checking) → r ≡ Err e → (e.why ≢ why.Memory → o ≡ Err (fault_of e)) → Finds o r v w
finds_err o r e v w is h = subst (λ r. Finds o r v w) (sym is) h

-- ---- names that a case enters and leaves

pub entered_count : {A : Type 0} (xs ys : List A) → length ys ≤ length (xs ++ ys)
entered_count xs ys = omega (arith, length-append xs ys)

pub left_locals : {A : Type 0} (xs ys : List A) → drop (length (xs ++ ys) - length ys) (xs ++ ys) ≡ ys
left_locals xs ys = drop_front xs ys (length (xs ++ ys) - length ys) (omega (arith, length-append xs ys))

-- Laws of tables that go on, for who keeps places of a table.
use Rattle.std.specs.Prelude.{ℕ, zero, suc, ◌≡◌, ◌<◌, ◌≤◌, refl, Bool, true, false, cond, nat_eq, ◌&&◌, is_some, Option, Some, None, option_map, List, [], ◌∷◌, ◌++◌, length, map}
use Rattle.std.proofs.Common.{sym, ◌∙◌, ap, ap₂, subst, get_or}
use Rattle.std.proofs.Math.Nat.{le-add_right, le_of_suc-le-suc, not-suc-le-zero}
use Rattle.std.proofs.Math.Nat as nat
use Rattle.std.proofs.Math.Path.{fun_ext}
use Rattle.std.proofs.lemmas.List.{append-nil, append_assoc, length-append, get_or_append_left}
use Rattle.ft_theory.specs.Expressions.{Expression, bound, Arguments, no_arguments, with_body, dummy, Terms, no_terms, also}
use Rattle.ft_syntax.specs.Arguments.{list_of_arguments, list_of_terms, as_arguments, as_terms}
use Rattle.ft_syntax.specs.Table.{tree, Extends, argument_in, BodyBelow, ArgumentsBelow, AllBelow}
use Rattle.ft_syntax.specs.Instances.{body_for, instance_in, PairsBelow}
use Rattle.ft_syntax.specs.declared.syntax.Arg.{Arg}

-- a table goes on from itself, and from what one goes on from that goes on from it
pub extends_same : (ts us : List Expression) → us ≡ ts → Extends ts us
extends_same ts us h = ([], h ∙ sym (append-nil ts))

pub extends_trans : (ts us vs : List Expression) → Extends ts us → Extends us vs → Extends ts vs
extends_trans ts us vs a b = (a.0 ++ b.0, b.1 ∙ ap (λ l. l ++ b.0) a.1 ∙ append_assoc ts a.0 b.0)

-- it is as long or longer
pub length_extends : (ts us : List Expression) → Extends ts us → length ts ≤ length us
length_extends ts us x = subst (λ n. length ts ≤ n) (sym (ap length x.1 ∙ length-append ts x.0)) (le-add_right (length ts) (length x.0))

-- what is among the first trees stays among them
pub below_extends : (ts us : List Expression) (e : ℕ) → Extends ts us → e < length ts → e < length us
below_extends ts us e x l = nat.lt_of_lt_of_le l (length_extends ts us x)

pub body_longer : (n m : ℕ) (b : Option ℕ) → n ≤ m → BodyBelow n b → BodyBelow m b
body_longer n m None l h = tt
body_longer n m (Some e) l h = nat.lt_of_lt_of_le h l

pub arguments_longer : (n m : ℕ) (xs : List Arg) → n ≤ m → ArgumentsBelow n xs → ArgumentsBelow m xs
arguments_longer n m [] l h = tt
arguments_longer n m (x ∷ xs) l h = (body_longer n m x.body l h.0, arguments_longer n m xs l h.1)

pub all_longer : (n m : ℕ) (es : List ℕ) → n ≤ m → AllBelow n es → AllBelow m es
all_longer n m [] l h = tt
all_longer n m (e ∷ es) l h = (nat.lt_of_lt_of_le h.0 l, all_longer n m es l h.1)

pub pairs_longer : (n m : ℕ) (ps : List (ℕ × Arg)) → n ≤ m → PairsBelow n ps → PairsBelow m ps
pairs_longer n m [] l h = tt
pairs_longer n m (p ∷ ps) l h = (body_longer n m p.1.body l h.0, pairs_longer n m ps l h.1)

pub body_below_extends : (ts us : List Expression) (b : Option ℕ) → Extends ts us → BodyBelow (length ts) b → BodyBelow (length us) b
body_below_extends ts us b x h = body_longer (length ts) (length us) b (length_extends ts us x) h

pub arguments_below_extends : (ts us : List Expression) (xs : List Arg) → Extends ts us → ArgumentsBelow (length ts) xs → ArgumentsBelow (length us) xs
arguments_below_extends ts us xs x h = arguments_longer (length ts) (length us) xs (length_extends ts us x) h

pub all_below_extends : (ts us : List Expression) (es : List ℕ) → Extends ts us → AllBelow (length ts) es → AllBelow (length us) es
all_below_extends ts us es x h = all_longer (length ts) (length us) es (length_extends ts us x) h

pub pairs_below_extends : (ts us : List Expression) (ps : List (ℕ × Arg)) → Extends ts us → PairsBelow (length ts) ps → PairsBelow (length us) ps
pairs_below_extends ts us ps x h = pairs_longer (length ts) (length us) ps (length_extends ts us x) h

-- one more
pub arguments_push : (n : ℕ) (xs : List Arg) (x : Arg) → ArgumentsBelow n xs → BodyBelow n x.body → ArgumentsBelow n (xs ++ x ∷ [])
arguments_push n [] x h g = (g, tt)
arguments_push n (y ∷ xs) x h g = (h.0, arguments_push n xs x h.1 g)

pub all_push : (n : ℕ) (es : List ℕ) (e : ℕ) → AllBelow n es → e < n → AllBelow n (es ++ e ∷ [])
all_push n [] e h g = (g, tt)
all_push n (d ∷ es) e h g = (h.0, all_push n es e h.1 g)

-- one of them
pub argument_below : (n i : ℕ) (xs : List Arg) (x : Arg) → ArgumentsBelow n xs → i < length xs → x ≡ get_or xs i x → BodyBelow n x.body
argument_below n i [] x h l g = absurd (not-suc-le-zero l)
argument_below n zero (y ∷ xs) x h l g = subst (λ (z : Arg). BodyBelow n z.body) (sym g) h.0
argument_below n (suc i) (y ∷ xs) x h l g = argument_below n i xs x h.1 (le_of_suc-le-suc l) g

pub one_below : (n i e : ℕ) (es : List ℕ) → AllBelow n es → i < length es → e ≡ get_or es i e → e < n
one_below n i e [] h l g = absurd (not-suc-le-zero l)
one_below n zero e (d ∷ es) h l g = subst (λ k. k < n) (sym g) h.0
one_below n (suc i) e (d ∷ es) h l g = one_below n i e es h.1 (le_of_suc-le-suc l) g

-- trees stay, and so what is made of them
pub tree_append : (ts us : List Expression) (e : ℕ) → e < length ts → tree (ts ++ us) e ≡ tree ts e
tree_append ts us e l = get_or_append_left ts us (bound 0) e l

pub tree_extends : (ts us : List Expression) (e : ℕ) → Extends ts us → e < length ts → tree us e ≡ tree ts e
tree_extends ts us e x l = ap (λ vs. tree vs e) x.1 ∙ tree_append ts x.0 e l

pub body_extends : (ts us : List Expression) (b : Option ℕ) → Extends ts us → BodyBelow (length ts) b → option_map (tree us) b ≡ option_map (tree ts) b
body_extends ts us None x h = refl
body_extends ts us (Some e) x h = ap Some (tree_extends ts us e x h)

pub arguments_extend : (ts us : List Expression) (xs : List Arg) → Extends ts us → ArgumentsBelow (length ts) xs → map (argument_in us) xs ≡ map (argument_in ts) xs
arguments_extend ts us [] x h = refl
arguments_extend ts us (y ∷ ys) x h = ap₂ (λ b ps. (y.binders, b) ∷ ps) (body_extends ts us y.body x h.0) (arguments_extend ts us ys x h.1)

pub trees_extend : (ts us : List Expression) (es : List ℕ) → Extends ts us → AllBelow (length ts) es → map (tree us) es ≡ map (tree ts) es
trees_extend ts us [] x h = refl
trees_extend ts us (e ∷ es) x h = ap₂ (λ t r. t ∷ r) (tree_extends ts us e x h.0) (trees_extend ts us es x h.1)

-- the body that is put for a metavariable is a tree of the table, and the instance stays
pub body_for_below : (n : ℕ) (ps : List (ℕ × Arg)) (m k b : ℕ) → PairsBelow n ps → body_for ps m k ≡ Some b → b < n
body_for_below n ps m k b h g = subst (BodyBelow n) g (found ps h)
  where
    either : (t : Bool) (x y : Option ℕ) → BodyBelow n x → BodyBelow n y → BodyBelow n (cond t x y)
    either true x y a b = a
    either false x y a b = b

    found : (ps : List (ℕ × Arg)) → PairsBelow n ps → BodyBelow n (body_for ps m k)
    found [] h = tt
    found (p ∷ ps) h = either (nat_eq m p.0 && nat_eq k p.1.binders && is_some p.1.body) p.1.body (body_for ps m k) h.0 (found ps h.1)

pub instance_extends : (ts us : List Expression) (ps : List (ℕ × Arg)) → Extends ts us → PairsBelow (length ts) ps → instance_in us ps ≡ instance_in ts ps
instance_extends ts us ps x h = fun_ext (λ m. fun_ext (λ k. go (body_for ps m k) (λ b. body_for_below (length ts) ps m k b h)))
  where
    go : (b : Option ℕ) → ((e : ℕ) → b ≡ Some e → e < length ts) → option_map (tree us) b ≡ option_map (tree ts) b
    go None l = refl
    go (Some e) l = ap Some (tree_extends ts us e x (l e refl))

-- arguments and terms are those of their lists
pub arguments_listed : (a : Arguments) → as_arguments (list_of_arguments a) ≡ a
arguments_listed no_arguments = refl
arguments_listed (with_body n e a) = ap (with_body n e) (arguments_listed a)
arguments_listed (dummy n a) = ap (dummy n) (arguments_listed a)

pub terms_listed : (a : Terms) → as_terms (list_of_terms a) ≡ a
terms_listed no_terms = refl
terms_listed (also t a) = ap (also t) (terms_listed a)

-- What an outcome tells of the steps that gave it.
use Rattle.std.proofs.Common.{◌≡◌, ◌≤◌, ap, refl, suc, Bool, true, false, if◌then◌else◌, List, [], ◌∷◌, ◌++◌, length, length-append, Ok, Err, Option, Some, None, ◌⊎◌, inl, inr, arith}
use Rattle.ft_grammar.specs.declared.token.Token.{Token}
use Rattle.ft_grammar.specs.declared.fault.SyntaxFault.{SyntaxFault}
use Rattle.ft_grammar.specs.Reading.{Outcome, Parser, and_then, value_or_refuse}

-- the tokens are those of the property, and then the rest
abbrev pub Front : (List Token → Type 0) → List Token → List Token → Type 0
Front P ts rest = (xs : List Token) × (ts ≡ xs ++ rest) × P xs

value_in : {A : Type 0} → A → Outcome A → A
value_in d (Ok p) = p.0
value_in d (Err e) = d

rest_in : {A : Type 0} → List Token → Outcome A → List Token
rest_in d (Ok p) = p.1
rest_in d (Err e) = d

pub ok_value : {A : Type 0} {a b : A} {xs ys : List Token} → ◌≡◌ {A = Outcome A} (Ok (a, xs)) (Ok (b, ys)) → a ≡ b
unfolding value_in
ok_value {a = a} h = ap (value_in a) h

pub ok_rest : {A : Type 0} {a b : A} {xs ys : List Token} → ◌≡◌ {A = Outcome A} (Ok (a, xs)) (Ok (b, ys)) → xs ≡ ys
unfolding rest_in
ok_rest {xs = xs} h = ap (rest_in xs) h

left_in : {A : Type 0} → List Token → Outcome A → List Token
left_in d (Ok p) = d
left_in d (Err e) = e.1

pub same_left : {A : Type 0} {e f : SyntaxFault} {xs ys : List Token} → ◌≡◌ {A = Outcome A} (Err (e, xs)) (Err (f, ys)) → xs ≡ ys
unfolding left_in
same_left {A = A} {xs = xs} h = ap (left_in {A = A} xs) h

pub bind_ok : {A B : Type 0} (o : Outcome B) (k : B → Parser A) (a : A) (rest : List Token) → and_then o k ≡ Ok (a, rest)
    → (b : B) × (mid : List Token) × (o ≡ Ok (b, mid)) × (k b mid ≡ Ok (a, rest))
bind_ok (Ok p) k a rest h = (p.0, p.1, refl, h)
bind_ok {A = A} (Err e) k a rest h = absurd (clash h)
  where
    clash : ◌≡◌ {A = Outcome A} (Err e) (Ok (a, rest)) → ⊥
    clash h = cc

pub chosen : {A : Type 0} (b : Bool) {x y z : A} → (if b then x else y) ≡ z → (x ≡ z) ⊎ (y ≡ z)
chosen true h = inl h
chosen false h = inr h

pub taken : {A : Type 0} (o : Option A) (t : Token) (ts : List Token) (a : A) (rest : List Token)
    → value_or_refuse o (t ∷ ts) ≡ Ok (a, rest) → (o ≡ Some a) × (t ∷ ts ≡ (t ∷ []) ++ rest)
taken (Some b) t ts a rest h = (ap Some (ok_value h), ap (λ xs. t ∷ xs) (ok_rest h))
taken {A = A} None t ts a rest h = absurd (clash h)
  where
    clash : value_or_refuse {A = A} None (t ∷ ts) ≡ Ok (a, rest) → ⊥
    clash h = cc

pub some_first : (xs : List Token) → (xs ≡ [] → ⊥) → (rest : List Token) → suc (length rest) ≤ length (xs ++ rest)
some_first [] some rest = absurd (some refl)
some_first (x ∷ xs) some rest =
    let l : length (x ∷ (xs ++ rest)) ≡ suc (length (xs ++ rest)) = refl in
    omega (arith, l, length-append xs rest)

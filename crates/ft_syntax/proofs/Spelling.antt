-- Marks and spellings, part by part.
use Rattle.std.proofs.Common.{◌≡◌, ℕ, suc, ◌<◌, ◌≤◌, List, [], ◌∷◌, ◌++◌, length, get_or, take, Option, Some, None, refl, sym, ap, ap₂, ◌∙◌, append_assoc}
use Rattle.std.proofs.Math.Seq.{take-suc}
use Rattle.ft_syntax.specs.Chains.{mixed, mark, mark_with, body_number, has_body, node_tag, node_number, spelled, spelled_arguments}
use Rattle.ft_syntax.specs.declared.syntax.Arg.{Arg}
use Rattle.ft_syntax.specs.declared.syntax.Node.{Node}
use Rattle.ft_syntax.specs.declared.syntax.Node.TheVariants.{Bound, Free, Sym, Meta}
use Rattle.ft_syntax.proofs.Lists.{take_all}

-- the mark with the first i arguments in it
pub record MarkedFirst (h : Node) (xs : List Arg) (i m : ℕ) : Type 0 where
  pub is : m ≡ mark h (take i xs)

mark_push : (m : ℕ) (xs : List Arg) (x : Arg) → mark_with m (xs ++ x ∷ []) ≡ mixed (mixed (mark_with m xs) x.binders) (body_number x.body)
mark_push m [] x = refl
mark_push m (y ∷ xs) x = mark_push (mixed (mixed m y.binders) (body_number y.body)) xs x

pub mark_start : (h : Node) (xs : List Arg) (m : ℕ) → m ≡ mixed (node_tag h) (node_number h) → MarkedFirst h xs 0 m
mark_start h xs m e = record { is = e }

pub mark_more : (h : Node) (xs : List Arg) (i m k : ℕ) (x : Arg) → MarkedFirst h xs i m → i < length xs → x ≡ get_or xs i x → k ≡ mixed (mixed m x.binders) (body_number x.body) → MarkedFirst h xs (suc i) k
mark_more h xs i m k x p l g e =
    let first = mixed (node_tag h) (node_number h) in
    record {
      is = e ∙ ap (λ n. mixed (mixed n x.binders) (body_number x.body)) p.is ∙ sym (mark_push first (take i xs) x) ∙ ap (mark_with first) (sym (take-suc xs i x l ∙ ap (λ z. take i xs ++ z ∷ []) (sym g)));
    }

pub mark_end : (h : Node) (xs : List Arg) (i m : ℕ) → MarkedFirst h xs i m → length xs ≤ i → m ≡ mark h xs
mark_end h xs i m p l = p.is ∙ ap (mark h) (take_all i xs l)

-- the spelling of the first i arguments
pub record SpelledFirst (h : Node) (xs : List Arg) (i : ℕ) (ks : List ℕ) : Type 0 where
  pub is : ks ≡ spelled h (take i xs)

spelled_push : (xs : List Arg) (x : Arg) → spelled_arguments (xs ++ x ∷ []) ≡ spelled_arguments xs ++ x.binders ∷ has_body x.body ∷ body_number x.body ∷ []
spelled_push [] x = refl
spelled_push (y ∷ xs) x = ap (λ ks. y.binders ∷ has_body y.body ∷ body_number y.body ∷ ks) (spelled_push xs x)

pub spelled_start : (h : Node) (xs : List Arg) (ks : List ℕ) → ks ≡ node_tag h ∷ node_number h ∷ [] → SpelledFirst h xs 0 ks
spelled_start h xs ks e = record { is = e }

pub spelled_more : (h : Node) (xs : List Arg) (i : ℕ) (ks next : List ℕ) (x : Arg) → SpelledFirst h xs i ks → i < length xs → x ≡ get_or xs i x →
    next ≡ ks ++ x.binders ∷ has_body x.body ∷ body_number x.body ∷ [] → SpelledFirst h xs (suc i) next
spelled_more h xs i ks next x p l g e =
    record {
      is = e ∙ ap (λ js. js ++ x.binders ∷ has_body x.body ∷ body_number x.body ∷ []) p.is
          ∙ ap (λ js. node_tag h ∷ node_number h ∷ js) (sym (spelled_push (take i xs) x) ∙ ap spelled_arguments (sym (take-suc xs i x l ∙ ap (λ z. take i xs ++ z ∷ []) (sym g))));
    }

pub three_more : (ks one two three : List ℕ) (a b c : ℕ) → one ≡ ks ++ a ∷ [] → two ≡ one ++ b ∷ [] → three ≡ two ++ c ∷ [] → three ≡ ks ++ a ∷ b ∷ c ∷ []
three_more ks one two three a b c h g f = f ∙ ap (λ js. js ++ c ∷ []) (g ∙ ap (λ js. js ++ b ∷ []) h ∙ append_assoc ks (a ∷ []) (b ∷ [])) ∙ append_assoc ks (a ∷ b ∷ []) (c ∷ [])

pub spelled_end : (h : Node) (xs : List Arg) (i : ℕ) (ks : List ℕ) → SpelledFirst h xs i ks → length xs ≤ i → ks ≡ spelled h xs
spelled_end h xs i ks p l = p.is ∙ ap (spelled h) (take_all i xs l)

-- a spelling is of one node and of one list of arguments
tail_same : (a b : ℕ) (ks js : List ℕ) → a ∷ ks ≡ b ∷ js → ks ≡ js
tail_same a b ks js h = cc

head_same : (a b : ℕ) (ks js : List ℕ) → a ∷ ks ≡ b ∷ js → a ≡ b
head_same a b ks js h = cc

body_same : (b c : Option ℕ) → has_body b ≡ has_body c → body_number b ≡ body_number c → b ≡ c
body_same None None h g = refl
body_same None (Some e) h g = cc
body_same (Some d) None h g = cc
body_same (Some d) (Some e) h g = ap Some g

argument_same : (x y : Arg) → x.binders ≡ y.binders → x.body ≡ y.body → x ≡ y
argument_same x y h g = ap₂ (λ n b. record { binders = n; body = b }) h g

arguments_same : (xs ys : List Arg) → spelled_arguments xs ≡ spelled_arguments ys → xs ≡ ys
arguments_same [] [] h = refl
arguments_same [] (y ∷ ys) h = cc
arguments_same (x ∷ xs) [] h = cc
arguments_same (x ∷ xs) (y ∷ ys) h =
    let t = tail_same _ _ _ _ h in let u = tail_same _ _ _ _ t in
    ap₂ (λ z zs. z ∷ zs) (argument_same x y (head_same _ _ _ _ h) (body_same x.body y.body (head_same _ _ _ _ t) (head_same _ _ _ _ u))) (arguments_same xs ys (tail_same _ _ _ _ u))

node_same : (h g : Node) → node_tag h ≡ node_tag g → node_number h ≡ node_number g → h ≡ g
node_same (Bound i) (Bound j) t n = ap Bound n
node_same (Bound i) (Free v) t n = cc
node_same (Bound i) (Sym s) t n = cc
node_same (Bound i) (Meta m) t n = cc
node_same (Free v) (Bound j) t n = cc
node_same (Free v) (Free w) t n = ap Free n
node_same (Free v) (Sym s) t n = cc
node_same (Free v) (Meta m) t n = cc
node_same (Sym s) (Bound j) t n = cc
node_same (Sym s) (Free v) t n = cc
node_same (Sym s) (Sym r) t n = ap Sym n
node_same (Sym s) (Meta m) t n = cc
node_same (Meta m) (Bound j) t n = cc
node_same (Meta m) (Free v) t n = cc
node_same (Meta m) (Sym s) t n = cc
node_same (Meta m) (Meta k) t n = ap Meta n

pub spelled_same : (h g : Node) (xs ys : List Arg) → spelled h xs ≡ spelled g ys → (h ≡ g) × (xs ≡ ys)
spelled_same h g xs ys e =
    let t = tail_same _ _ _ _ e in
    (node_same h g (head_same _ _ _ _ e) (head_same _ _ _ _ t), arguments_same xs ys (tail_same _ _ _ _ t))

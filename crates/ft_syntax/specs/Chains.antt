-- How a row is found. A row has a mark, made of its node and its arguments, and the rows whose marks leave the same remainder
-- are chained: each leads to the last one before it. A row without a mark is found by its spelling.
use Rattle.std.specs.Prelude.{ℕ, suc, ◌≡◌, ◌≢◌, ◌++◌, ◌<◌, ◌≤◌, ◌%◌, ◌/◌, ◌*◌, ◌-◌, ◌^◌, Option, Some, None, List, [], ◌∷◌, map, length, slice_index_or, bit_xor, IfSome, ◌⊎◌}
use Rattle.std.specs.Global.{Vec}
use Rattle.std.specs.Ordering.{nat_cmp}
use Rattle.std.specs.BTreeMap.{get_by}
use Rattle.std.specs.Cmp.Lexicographic.{slice_cmp}
use Rattle.ft_syntax.specs.declared.syntax.Arg.{Arg}
use Rattle.ft_syntax.specs.declared.syntax.Node.{Node}
use Rattle.ft_syntax.specs.declared.syntax.Node.TheVariants.{Bound, Free, Sym, Meta}
use Rattle.ft_syntax.specs.declared.index.Link.{Link}
use Rattle.ft_syntax.specs.declared.crowded.Crowded.{Crowded}

-- a mark with one more part in it
unfoldable pub mixed : ℕ → ℕ → ℕ
mixed m p = let x = (bit_xor m p * 0x9E37_79B9_7F4A_7C15) % 2 ^ 64 in bit_xor x (x / 2 ^ 32)

-- a body as a number, where a dummy has the last one
abbrev pub body_number : Option ℕ → ℕ
body_number None = 2 ^ 64 - 1
body_number (Some e) = e

abbrev pub node_tag : Node → ℕ
node_tag (Bound i) = 1
node_tag (Free v) = 2
node_tag (Sym s) = 3
node_tag (Meta m) = 4

abbrev pub node_number : Node → ℕ
node_number (Bound i) = i
node_number (Free v) = v
node_number (Sym s) = s
node_number (Meta m) = m

-- a mark with arguments mixed in
abbrev pub mark_with : ℕ → List Arg → ℕ
mark_with m [] = m
mark_with m (x ∷ xs) = mark_with (mixed (mixed m x.binders) (body_number x.body)) xs

-- the mark of a node with its arguments
abbrev pub mark : Node → List Arg → ℕ
mark h xs = mark_with (mixed (node_tag h) (node_number h)) xs

-- the numbers that spell a body, an argument, and a node with its arguments
abbrev pub has_body : Option ℕ → ℕ
has_body None = 0
has_body (Some e) = 1

abbrev pub spelled_arguments : List Arg → List ℕ
spelled_arguments [] = []
spelled_arguments (x ∷ xs) = x.binders ∷ has_body x.body ∷ body_number x.body ∷ spelled_arguments xs

abbrev pub spelled : Node → List Arg → List ℕ
spelled h xs = node_tag h ∷ node_number h ∷ spelled_arguments xs

-- the place of the row without a mark that has this spelling
abbrev pub place_in : Crowded → List ℕ → Option ℕ
place_in c ks = get_by (λ (k : Vec ℕ). slice_cmp nat_cmp ks k.items) c.places

-- the place after this one, or the first where there is none
abbrev pub after : Option ℕ → ℕ
after None = 0
after (Some p) = suc p

-- r is the last place before k at which P holds
pub record IsLast (P : ℕ → Type 0) (k : ℕ) (r : Option ℕ) : Type 0 where
  pub before : after r ≤ k
  pub holds : IfSome r P
  pub none : (q : ℕ) → after r ≤ q → q < k → P q → ⊥

-- the row at a place has this mark
abbrev pub HasMark : List (Option ℕ) → ℕ → ℕ → Type 0
HasMark ms m p = slice_index_or ms p None ≡ Some m

-- the row at a place has a mark that leaves the remainder b by n
abbrev pub InBucket : List (Option ℕ) → ℕ → ℕ → ℕ → Type 0
InBucket ms n b p = (m : ℕ) × HasMark ms m p × (m % n ≡ b)

abbrev pub marks_of : List Link → List (Option ℕ)
marks_of ls = map (λ (l : Link). l.mark) ls

abbrev pub earlier_of : List Link → List (Option ℕ)
earlier_of ls = map (λ (l : Link). l.earlier) ls

-- each row that has a mark leads to the last one before it in its bucket
pub record AreLinked (ms es : List (Option ℕ)) (n : ℕ) : Type 0 where
  pub last : (p m : ℕ) → HasMark ms m p → IsLast (InBucket ms n (m % n)) p (slice_index_or es p None)

-- and each head is the last row of its bucket
pub record AreChained (heads ms es : List (Option ℕ)) : Type 0 where
  pub empty : length heads ≡ 0 → length ms ≡ 0
  pub last : (b : ℕ) → b < length heads → IsLast (InBucket ms (length heads) b) (length ms) (slice_index_or heads b None)
  pub linked : AreLinked ms es (length heads)

-- the row at a place, of this node and these arguments, is found by its mark or by its spelling
abbrev pub IsFound : List (Option ℕ) → Crowded → ℕ → Node → List Arg → Type 0
IsFound ms c p h xs = HasMark ms (mark h xs) p ⊎ (place_in c (spelled h xs) ≡ Some p)

-- a row is added to the marks, and found
pub record IsNoted (ms now : List (Option ℕ)) (c : Crowded) (p : ℕ) (h : Node) (xs : List Arg) : Type 0 where
  pub last : Option ℕ
  pub is : now ≡ ms ++ last ∷ []
  pub found : IsFound now c p h xs

-- each other spelling has the place that it had
pub record KeepsOthers (c d : Crowded) (ks : List ℕ) : Type 0 where
  pub same : (js : List ℕ) → js ≢ ks → place_in d js ≡ place_in c js

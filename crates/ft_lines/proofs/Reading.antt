-- Expressions read one after another, into a table that goes on.
use Rattle.std.proofs.Common.{◌≡◌, ◌∙◌, sym, ap, refl, ℕ, suc, ◌+◌, ◌-◌, ◌<◌, List, [], ◌∷◌, ◌++◌, length, map, drop, Ok, Bool, true, if◌then◌else◌, arith}
use Rattle.ft_theory.specs.Expressions.{Expression}
use Rattle.ft_theory.specs.Statements.{Claim, plain, abstracted}
use Rattle.ft_syntax.specs.Table.{tree, Extends, AllBelow}
use Rattle.ft_syntax.specs.Laws.{all_below_extends, length_extends, tree_extends, trees_extend}
use Rattle.ft_judge.specs.Meaning.{claim_in, goal_in, under, thesis_in, boundary_in, FormBelow, GoalBelow, ThesisBelow, BoundaryBelow}
use Rattle.ft_judge.specs.declared.judgement.Form.{Form}
use Rattle.ft_judge.specs.declared.judgement.Goal.{Goal}
use Rattle.ft_lines.specs.Reading.{Outcome, Reader, sees}
use Rattle.ft_lines.specs.Statements.{one, two, three, domain, domains_from, over, statement, form, goal as goal_read, thesis, boundary}
use Rattle.ft_common.proofs.Turns.{one_more}

pub two_read : (ts us : List Expression) (a b : ℕ) (cs ds es : List ℕ) → Extends ts us → (a < length ts) × (one cs ≡ Ok (tree ts a, ds)) → (b < length us) × (one ds ≡ Ok (tree us b, es))
    → ((a < length us) × (b < length us)) × (two cs ≡ Ok ((tree us a, tree us b), es))
unfolding two
two_read ts us a b cs ds es on h k =
    let l = length_extends ts us on in
    ((omega (arith, h.0, l), k.0), rw (h.1, k.1) (ap (λ x. Ok ((x, tree us b), es)) (sym (tree_extends ts us a on h.0))))

pub three_read : (ts us : List Expression) (a b d : ℕ) (cs ds es : List ℕ) → Extends ts us → (a < length ts) × (one cs ≡ Ok (tree ts a, ds))
    → ((b < length us) × (d < length us)) × (two ds ≡ Ok ((tree us b, tree us d), es))
    → ((a < length us) × (b < length us) × (d < length us)) × (three cs ≡ Ok ((tree us a, tree us b, tree us d), es))
unfolding three
three_read ts us a b d cs ds es on h k =
    let l = length_extends ts us on in
    ((omega (arith, h.0, l), k.0.0, k.0.1), rw (h.1, k.1) (ap (λ x. Ok ((x, tree us b, tree us d), es)) (sym (tree_extends ts us a on h.0))))

-- a turn of the loop that reads domains
pub domains_on : (k : ℕ) (found : List Expression) (a : Expression) (cs ds : List ℕ) → sees 123 cs ≡ true → domain (drop 1 cs) ≡ Ok (a, ds)
    → domains_from (suc k) found cs ≡ domains_from k (found ++ a ∷ []) ds
unfolding domains_from
domains_on k found a cs ds s h = rw (s, h) refl

pub domains_more : (whole : Outcome (List Expression)) (n at : ℕ) (found next : List Expression) (a : Expression) (cs ds es : List ℕ) (told : Bool)
    → at < n → whole ≡ domains_from (n - at) found cs → told ≡ sees 123 cs → told ≡ true → ds ≡ (if sees 123 cs then drop 1 cs else cs)
    → domain ds ≡ Ok (a, es) → next ≡ found ++ a ∷ [] → whole ≡ domains_from (n - (at + 1)) next es
domains_more whole n at found next a cs ds es told below w t y r h f =
    let s : sees 123 cs ≡ true = sym t ∙ y in
    let rest : ds ≡ drop 1 cs = r ∙ ap (λ b. if b then drop 1 cs else cs) s in
    one_more (λ k. domains_from k found cs) n at below w
    ∙ domains_on (n - (at + 1)) found a cs es s (ap domain (sym rest) ∙ h)
    ∙ ap (λ g. domains_from (n - (at + 1)) g es) (sym f)

-- the statement of a table
under_is : (ts : List Expression) (As : List ℕ) (c : Claim) → under ts As (plain c) ≡ over (map (tree ts) As) c
under_is ts [] c = refl
under_is ts (A ∷ As) c = ap (abstracted (tree ts A)) (under_is ts As c)

statement_are : (claim : Reader Claim) (cs ds es : List ℕ) (As : List Expression) (c : Claim) → domains_from (length cs) [] cs ≡ Ok (As, ds) → claim ds ≡ Ok (c, es)
    → statement claim cs ≡ Ok (over As c, es)
unfolding statement
statement_are claim cs ds es As c h k = rw (h, k) refl

statement_read : (claim : Reader Claim) (ts us : List Expression) (As : List ℕ) (c : Claim) (cs ds es : List ℕ) → Extends ts us → AllBelow (length ts) As
    → domains_from (length cs) [] cs ≡ Ok (map (tree ts) As, ds) → claim ds ≡ Ok (c, es) → statement claim cs ≡ Ok (under us As (plain c), es)
statement_read claim ts us As c cs ds es on below h k =
    statement_are claim cs ds es (map (tree ts) As) c h k
    ∙ ap (λ Bs. Ok (over Bs c, es)) (sym (trees_extend ts us As on below))
    ∙ ap (λ x. Ok (x, es)) (sym (under_is us As c))

pub thesis_read : (ts us : List Expression) (As : List ℕ) (f : Form) (cs ds es : List ℕ) → Extends ts us → AllBelow (length ts) As × (domains_from (length cs) [] cs ≡ Ok (map (tree ts) As, ds))
    → FormBelow (length us) f × (form ds ≡ Ok (claim_in us f, es))
    → ThesisBelow (length us) (record { domains = As; form = f }) × (thesis cs ≡ Ok (thesis_in us (record { domains = As; form = f }), es))
thesis_read ts us As f cs ds es on h k =
    ((all_below_extends ts us As on h.0, k.0), statement_read form ts us As (claim_in us f) cs ds es on h.0 h.1 k.1)

pub boundary_read : (ts us : List Expression) (As : List ℕ) (g : Goal) (cs ds es : List ℕ) → Extends ts us → AllBelow (length ts) As × (domains_from (length cs) [] cs ≡ Ok (map (tree ts) As, ds))
    → GoalBelow (length us) g × (goal_read ds ≡ Ok (goal_in us g, es))
    → BoundaryBelow (length us) (record { domains = As; goal = g }) × (boundary cs ≡ Ok (boundary_in us (record { domains = As; goal = g }), es))
boundary_read ts us As g cs ds es on h k =
    ((all_below_extends ts us As on h.0, k.0), statement_read goal_read ts us As (goal_in us g) cs ds es on h.0 h.1 k.1)

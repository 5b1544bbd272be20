-- What stays as a session goes on.
use Rattle.std.proofs.Common.{◌≡◌, ◌∙◌, sym, ap, ap₂, refl, subst, ℕ, suc, List, [], ◌∷◌, ◌++◌, map, length, Some, append_assoc, append-nil, ◌&&◌, Result, Ok, Err, IfOk, OnOk, OnErr}
use Rattle.ft_base.specs.declared.memory.Memory.{Memory}
use Rattle.ft_theory.specs.Expressions.{Expression}
use Rattle.ft_theory.specs.Statements.{Claim, plain}
use Rattle.ft_items.specs.Sets.{Atom}
use Rattle.ft_items.specs.Item.{Item, Entry, Stated, entry}
use Rattle.ft_items.specs.Store.{nth, entries_in, declared_by}
use Rattle.ft_items.proofs.Lists.{nth_before, nth_end, entries_append, declared_last}
use Rattle.std.proofs.lemmas.List.{map-append, length-map}
use Rattle.ft_syntax.specs.Table.{Extends}
use Rattle.ft_judge.specs.Meaning.{claim_in, under}
use Rattle.ft_judge.specs.declared.judgement.Goal.{Goal}
use Rattle.ft_kernel.specs.State.{State, with_item}
use Rattle.ft_applications_meaning.specs.Histories.{told}
use Rattle.ft_run.specs.Steps.{IsOfApplications, AllOfApplications}
use Rattle.ft_run.proofs.Telling.{told_entries, steps_last}
use Rattle.ft_judge.specs.Laws.{claim_extends, goal_extends, form_below_extends, goal_below_extends}
use Rattle.ft_applications_meaning.specs.Building.{Declaration, theory, names, plains}
use Rattle.ft_run.specs.declared.session.Known.{Known}
use Rattle.ft_run.specs.declared.session.Claimed.{Claimed}
use Rattle.ft_items.specs.Equal.{fit_all}
use Rattle.ft_run.specs.Given.{fits_one, fits_goals}
use Rattle.ft_run.specs.Session.{Progress, numbered, boundaries_in, declarations, IsSimpleGoal, IsSimpleClaim, FitsGoal, AllFitGoals, AreKnown, IsSession, HasEntry, IsClaimed, AreClaimed, claims_in, Keeps}

module _ (ts us : List Expression) (x : Extends ts us) where
  pub boundaries_kept : (gs : List Goal) → AllFitGoals ts gs → boundaries_in us gs ≡ boundaries_in ts gs
  boundaries_kept [] h = refl
  boundaries_kept (g ∷ gs) h = ap₂ (λ c bs. plain c ∷ bs) (goal_extends ts us g x h.0.0) (boundaries_kept gs h.1)

  pub declarations_kept : (ks : List Known) → AreKnown ts ks → declarations us ks ≡ declarations ts ks
  declarations_kept [] h = refl
  declarations_kept (k ∷ ks) h =
      ap₂ (λ d ds. d ∷ ds)
      (ap₂ (λ bs c. record { name = k.name; rule = record { premises = numbered k.first bs; conclusion = c } }) (boundaries_kept k.premises.items h.0.0) (goal_extends ts us k.conclusion x h.0.1.0))
      (declarations_kept ks h.1)

  goal_fits : (g : Goal) → FitsGoal ts g → FitsGoal us g
  goal_fits g h = (goal_below_extends ts us g x h.0, subst IsSimpleGoal (sym (goal_extends ts us g x h.0)) h.1)

  pub goals_fit : (gs : List Goal) → AllFitGoals ts gs → AllFitGoals us gs
  goals_fit [] h = tt
  goals_fit (g ∷ gs) h = (goal_fits g h.0, goals_fit gs h.1)

  known_kept : (ks : List Known) → AreKnown ts ks → AreKnown us ks
  known_kept [] h = tt
  known_kept (k ∷ ks) h = ((goals_fit k.premises.items h.0.0, goal_fits k.conclusion h.0.1), known_kept ks h.1)

-- the table goes on, and the list is as it was
pub session_extends : (s t : State) (ks : List Known) → IsSession s ks → Extends s.trees t.trees → t.items ≡ s.items → IsSession t ks
session_extends s t ks h x e =
    let same = declarations_kept s.trees t.trees x ks h.known in
    record {
      known = known_kept s.trees t.trees x ks h.known;
      rules = ap (λ is. (declared_by is).rules) e ∙ h.rules ∙ ap theory (sym same);
      names_are = ap (λ is. (declared_by is).names) e ∙ h.names_are ∙ ap names (sym same);
      steps = subst AllOfApplications (sym e) h.steps;
    }

pub keeps_extends : (s t : State) (ks : List Known) → IsSession s ks → Extends s.trees t.trees → t.items ≡ s.items
    → Keeps (record { state = s; rules = declarations s.trees ks }) (record { state = t; rules = declarations t.trees ks })
keeps_extends s t ks h x e = record {
  trees = x;
  items = ([], e ∙ sym (append-nil s.items));
  rules = declarations_kept s.trees t.trees x ks h.known;
}

pub keeps_same : (p : Progress) → Keeps p p
keeps_same p = record { trees = ([], sym (append-nil p.state.trees)); items = ([], sym (append-nil p.state.items)); rules = refl }

pub keeps_then : (p q r : Progress) → Keeps p q → Keeps q r → Keeps p r
keeps_then p q r f g = record {
  trees = (f.trees.0 ++ g.trees.0, g.trees.1 ∙ ap (λ ts. ts ++ g.trees.0) f.trees.1 ∙ append_assoc p.state.trees f.trees.0 g.trees.0);
  items = (
    f.items.0 ++ g.items.0,
    g.items.1 ∙ ap (λ is. is ++ map entry g.items.0) f.items.1 ∙ append_assoc p.state.items (map entry f.items.0) (map entry g.items.0)
        ∙ ap (λ is. p.state.items ++ is) (sym (map-append entry f.items.0 g.items.0)),
  );
  rules = g.rules ∙ f.rules;
}

-- what is kept tells nothing more
pub keeps_tell : (p q : Progress) → Keeps p q → told q.state.items ≡ told p.state.items
keeps_tell p q k = ap told k.items.1 ∙ told_entries p.state.items k.items.0

-- an entry stays, whatever comes after
pub entry_stays : (s t : State) (more : List Item) (j : ℕ) (c : Claim) → t.items ≡ s.items ++ more → HasEntry s j c → HasEntry t j c
entry_stays s t more j c e h =
    ap (λ is. nth (entries_in is) j) e ∙ ap (λ es. nth es j) (entries_append s.items more)
    ∙ nth_before (entries_in s.items) (entries_in more) j (record { statement = plain c; set = [] }) h

pub entry_kept : (p q : Progress) (j : ℕ) (c : Claim) → Keeps p q → HasEntry p.state j c → HasEntry q.state j c
entry_kept p q j c k h = entry_stays p.state q.state (map entry k.items.0) j c k.items.1 h

pub claimed_kept : (p q : Progress) (x : Claimed) → Keeps p q → IsClaimed p.state x → (claim_in q.state.trees x.form ≡ claim_in p.state.trees x.form) × IsClaimed q.state x
claimed_kept p q x k h =
    let same = claim_extends p.state.trees q.state.trees x.form k.trees h.below in (
      same,
      record {
        below = form_below_extends p.state.trees q.state.trees x.form k.trees h.below;
        simple = subst IsSimpleClaim (sym same) h.simple;
        entry = subst (HasEntry q.state x.entry) (sym same) (entry_kept p q x.entry (claim_in p.state.trees x.form) k h.entry);
      },
    )

pub all_claimed_kept : (p q : Progress) (xs : List Claimed) → Keeps p q → AreClaimed p.state xs → (claims_in q.state.trees xs ≡ claims_in p.state.trees xs) × AreClaimed q.state xs
all_claimed_kept p q [] k h = (refl, tt)
all_claimed_kept p q (x ∷ xs) k h =
    let one = claimed_kept p q x k h.0 in
    let more = all_claimed_kept p q xs k h.1 in
    (ap₂ (λ c cs. c ∷ cs) one.0 more.0, (one.1, more.1))

-- one more entry
pub session_entry : (s : State) (e : Entry) (ks : List Known) → IsSession s ks → IsOfApplications (entry e) → IsSession (with_item s (entry e)) ks
session_entry s e ks h f =
    let more = declared_last s.items (entry e) in
    record {
      known = h.known;
      rules = ap (λ W. W.rules) more ∙ h.rules;
      names_are = ap (λ W. W.names) more ∙ h.names_are;
      steps = steps_last s.items (entry e) h.steps f;
    }

pub keeps_entry : (s : State) (e : Entry) (ds : List Declaration) → Keeps (record { state = s; rules = ds }) (record { state = with_item s (entry e); rules = ds })
keeps_entry s e ds = record {
  trees = ([], sym (append-nil s.trees));
  items = (e ∷ [], refl);
  rules = refl;
}

pub has_entry : (s : State) (e : Entry) → nth (entries_in (with_item s (entry e)).items) (length (entries_in s.items)) ≡ Some (record { statement = e.statement; set = e.set })
has_entry s e = ap (λ es. nth es (length (entries_in s.items))) (entries_append s.items (entry e ∷ [])) ∙ nth_end (entries_in s.items) (record { statement = e.statement; set = e.set })

pub declarations_length : (ts : List Expression) (ks : List Known) → length (declarations ts ks) ≡ length ks
declarations_length ts [] = refl
declarations_length ts (k ∷ ks) = ap suc (declarations_length ts ks)

pub theory_length : (ds : List Declaration) → length (theory ds) ≡ length ds
theory_length ds = length-map ds (λ (d : Declaration). d.rule)

-- the same, from the value that is seen
pub keeps_from : (p : Progress) (s t : State) (ks : List Known) → record { state = s; rules = declarations s.trees ks } ≡ p → IsSession s ks → Extends s.trees t.trees → t.items ≡ s.items
    → Keeps p (record { state = t; rules = declarations t.trees ks })
keeps_from p s t ks v h x e = subst (λ p. Keeps p (record { state = t; rules = declarations t.trees ks })) v (keeps_extends s t ks h x e)

pub entry_keeps_from : (p : Progress) (s t : State) (e : Entry) (ks : List Known) → record { state = s; rules = declarations s.trees ks } ≡ p → t ≡ with_item s (entry e)
    → Keeps p (record { state = t; rules = declarations t.trees ks })
entry_keeps_from p s t e ks v w =
    subst (λ p. Keeps p (record { state = t; rules = declarations t.trees ks })) v
    (subst (λ t. Keeps (record { state = s; rules = declarations s.trees ks }) (record { state = t; rules = declarations t.trees ks })) (sym w) (keeps_entry s e (declarations s.trees ks)))

-- after a push of an entry, whether there was memory for it or not
pub session_after : (r : Result ℕ Memory) (s t : State) (e : Entry) (ks : List Known) → IsSession s ks → IsOfApplications (entry e) → OnOk r (t ≡ with_item s (entry e)) → OnErr r (t ≡ s) → IsSession t ks
session_after (Ok j) s t e ks h f a b = subst (λ t. IsSession t ks) (sym a) (session_entry s e ks h f)
session_after (Err m) s t e ks h f a b = subst (λ t. IsSession t ks) (sym b) h

pub keeps_after : (r : Result ℕ Memory) (p : Progress) (s t : State) (e : Entry) (ks : List Known) → record { state = s; rules = declarations s.trees ks } ≡ p → OnOk r (t ≡ with_item s (entry e)) → OnErr r (t ≡ s)
    → Keeps p (record { state = t; rules = declarations t.trees ks })
keeps_after (Ok j) p s t e ks v a b = entry_keeps_from p s t e ks v a
keeps_after (Err m) p s t e ks v a b =
    subst (λ q. Keeps p q) (sym v ∙ ap (λ t. record { state = t; rules = declarations t.trees ks }) (sym b)) (keeps_same p)

-- after a push of a claim without domains that rests on nothing
pub entry_pushed : (r : Result ℕ Memory) (s t : State) (c : Claim) (ds : List ℕ) (S : List Atom) (u : Stated) → ds ≡ [] → S ≡ [] → IfOk r (λ j. j ≡ length (entries_in s.items))
    → OnOk r (t ≡ with_item s (entry (record { statement = under s.trees ds (plain c); set = S; step = u }))) → IfOk r (λ j. HasEntry t j c)
entry_pushed (Ok j) s t c ds S u no_domains no_atoms n a =
    ap₂ (λ (t : State) j. nth (entries_in t.items) j) a n ∙ has_entry s (record { statement = under s.trees ds (plain c); set = S; step = u })
    ∙ ap₂ (λ ds S. Some (record { statement = under s.trees ds (plain c); set = S })) no_domains no_atoms
entry_pushed (Err m) s t c ds S u no_domains no_atoms n a = tt

-- claims fit the goals of a declared rule
pub fits_declared : (ts : List Expression) (m : ℕ) (gs : List Goal) (xs : List Claimed) → fits_goals ts gs xs ≡ fit_all (λ b. b) (numbered m (boundaries_in ts gs)) (plains (claims_in ts xs))
fits_declared ts m [] [] = refl
fits_declared ts m [] (x ∷ xs) = refl
fits_declared ts m (g ∷ gs) [] = refl
fits_declared ts m (g ∷ gs) (x ∷ xs) = ap (λ b. fits_one ts g x.form && b) (fits_declared ts (suc m) gs xs)

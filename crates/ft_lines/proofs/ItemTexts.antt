-- Lines of items: what is read is the line of the item, and the line is read.
use Rattle.std.proofs.Common.{◌≡◌, ◌≢◌, ◌∙◌, sym, ap, ap₂, refl, subst, ℕ, ◌<◌, List, [], ◌∷◌, ◌++◌, length, map, Result, Ok, Err, Bool, true, false}
use Rattle.std.specs.Prelude.{IfOk, IsErrOf}
use Rattle.std.specs.Str.{encode_utf8_all}
use Rattle.ft_theory.specs.Expressions.{Expression}
use Rattle.ft_theory.specs.Statements.{Statement}
use Rattle.ft_base.specs.Names.{is_name_token}
use Rattle.ft_items.specs.Equal.{is_thesis}
use Rattle.ft_items.specs.Sets.{Atom}
use Rattle.ft_items.specs.Item.{Entry, Item, Stated, by_var, by_generic, by_meta, by_metacong, by_abs, by_subst, by_substeq, by_refl, by_sym, by_trans, by_conv, by_conveq, by_left, by_right, by_typeof, by_domain, by_boundary, by_widen, by_btype, by_bterm, by_beqty, by_beqtm, by_rule, by_rulewith, by_inst, by_cong, by_convprem, by_convback, by_arg, by_natural, by_metainst, variable as a_variable, metavariable as a_metavariable, rule as a_rule, entry as an_entry, shown as a_mark}
use Rattle.ft_items.specs.Texts.{line_text, statement_text, set_text, step_text, written, IsOfVersion1, PartsFit, EntryFits, ItemFits}
use Rattle.ft_items.specs.Lines.{IsLineOf}
use Rattle.ft_items.specs.Faults.{IsItemLine}
use Rattle.ft_texts.proofs.Characters.{line_each}
use Rattle.ft_stated.specs.Lines.{item_in, StatedBelow}
use Rattle.ft_stated.specs.declared.stated.Stated.{Stated as AnyStated}
use Rattle.ft_lines.specs.declared.fault.Fault.{Fault}
use Rattle.ft_lines.specs.declared.fault.Fault.TheVariants.{Form, Memory}
use Rattle.ft_lines.specs.declared.steps.Part.{Part}
use Rattle.ft_lines.specs.declared.words.Word.{Word}
use Rattle.ft_lines.specs.Reading.{Reader, ◌>>=◌, and_then, pure, sees}
use Rattle.ft_lines.specs.Words.{spelling_of}
use Rattle.ft_lines.specs.Steps.{part_of, parts_text, IsWritten}
use Rattle.ft_lines.specs.Written.{Told, step_of}
use Rattle.ft_lines.specs.Entries.{thesis_entry, boundary_entry, entry_text, IsEntryText}
use Rattle.ft_lines.specs.Lines.{variable, metavariable, rule, mark, told, thesis_item, boundary_item, declared, item, ended, whole, ReadsItem}
use Rattle.ft_common.proofs.Booleans.{false_true}
use Rattle.ft_common.proofs.Choices.{by_test, taken, not_taken}
use Rattle.ft_common.proofs.Results.{ok_ok, err_ok}
use Rattle.ft_lines.proofs.Chains.{in_turn, after}
use Rattle.ft_lines.proofs.EntryTexts.{thesis_entry_is, boundary_entry_is, thesis_entry_back, boundary_entry_back}
use Rattle.ft_lines.proofs.StepsOf.{no_word, step_is_written, written_is_told}
use Rattle.ft_lines.proofs.LineTexts.{plain_bytes, variable_line, metavariable_line, rule_line, mark_line, variable_is, variable_back, metavariable_is, metavariable_back, rule_is, rule_back, mark_is, mark_back}

-- ---- entries
entry_plain : (e : Entry) → EntryFits e → encode_utf8_all (line_text (an_entry e)) ≡ line_text (an_entry e)
entry_plain e fits = plain_bytes (line_text (an_entry e)) (line_each (λ c. c < 128) (λ c a b. b) (λ n. false) (λ n no. absurd (false_true no)) (an_entry e) fits)

version_1 : (s : Stated) (w : Word) → spelling_of w ≡ (written s).0 → IsOfVersion1 s
version_1 (by_var p) w h = tt
version_1 (by_generic p) w h = tt
version_1 (by_meta r ns) w h = tt
version_1 (by_metacong r ns) w h = tt
version_1 (by_abs p q) w h = tt
version_1 (by_subst p q) w h = tt
version_1 (by_substeq p q) w h = tt
version_1 (by_refl p) w h = tt
version_1 (by_sym p) w h = tt
version_1 (by_trans p q) w h = tt
version_1 (by_conv p q) w h = tt
version_1 (by_conveq p q) w h = tt
version_1 (by_left p) w h = tt
version_1 (by_right p) w h = tt
version_1 (by_typeof p) w h = tt
version_1 (by_domain p) w h = tt
version_1 (by_boundary p) w h = tt
version_1 (by_widen p q) w h = tt
version_1 by_btype w h = tt
version_1 (by_bterm p) w h = tt
version_1 (by_beqty p q) w h = tt
version_1 (by_beqtm p q r) w h = tt
version_1 (by_rule r ns) w h = tt
version_1 (by_rulewith r b ns) w h = tt
version_1 (by_inst r ns) w h = tt
version_1 (by_cong r ns es) w h = tt
version_1 (by_convprem r ns es q) w h = tt
version_1 (by_convback r ns es q) w h = tt
version_1 (by_arg p q) w h = tt
version_1 (by_natural p) w h = tt
version_1 (by_metainst p ms qs) w h = absurd (no_word w h)

-- the text of an entry by its word and its parts
with_step : (x : Statement) (S : List Atom) (s : Stated) (w : Word) (ps : List Part) (letter : ℕ) (rest : List ℕ) → IsWritten s w ps → rest ≡ []
    → letter ∷ 32 ∷ (statement_text x ++ (32 ∷ (set_text S ++ (32 ∷ ((spelling_of w ++ parts_text (map part_of ps)) ++ rest))))) ≡ entry_text letter (record { statement = x; set = S; step = s })
with_step x S s w ps letter rest is none =
    ap (λ y. letter ∷ 32 ∷ (statement_text x ++ (32 ∷ (set_text S ++ (32 ∷ y))))) (ap₂ (λ a b. (a ++ parts_text b) ++ rest) is.0 is.1 ∙ ap (λ y. step_text s ++ y) none)

told_is : {A : Type 0} (t : Told A) (a : A) (cs rest : List ℕ) → told t cs ≡ Ok (a, rest) → (t ≡ Ok a) × (cs ≡ rest)
told_is (Ok b) a cs rest h = let e = ok_ok (b, cs) (a, rest) h in (ap (λ x. Ok x.0) e, ap (λ x. x.1) e)
told_is (Err f) a cs rest h = absurd (err_ok f (a, rest) h)

abbrev Pieces : Type 0
Pieces = Statement × List Atom × Word × List Part

-- what is read of an entry, after its pieces
abbrev stated_entry : Pieces → Reader Item
stated_entry e = told (step_of e.2 e.3) >>= (λ s. pure (an_entry (record { statement = e.0; set = e.1; step = s })))

entry_is : (t : Bool) (letter : ℕ) (e : Pieces) (i : Item) (cs ds : List ℕ) → ((x : Entry) → is_thesis x.statement ≡ t → line_text (an_entry x) ≡ entry_text letter x)
    → IsEntryText t letter e.0 e.1 e.2 e.3 cs ds → stated_entry e ds ≡ Ok (i, []) → IsLineOf is_name_token cs i
entry_is t letter e i cs ds line is h =
    let s = in_turn (told (step_of e.2 e.3) ds) (λ s. pure (an_entry (record { statement = e.0; set = e.1; step = s }))) i [] h in
    let d = told_is (step_of e.2 e.3) s.0.0 ds s.0.1 s.1 in
    let x : Entry = record { statement = e.0; set = e.1; step = s.0.0 } in
    let f = ok_ok (an_entry x, s.0.1) (i, []) s.2 in
    let w : IsWritten s.0.0 e.2 e.3 = step_is_written e.2 e.3 s.0.0 d.0 in
    let fits : EntryFits x = record {
      statement = is.1;
      ascending = is.3;
      set = is.4;
      version = version_1 s.0.0 e.2 w.0;
      step = subst PartsFit w.1 is.5;
    } in
    subst (IsLineOf is_name_token cs) (ap (λ y. y.0) f)
    (fits, is.0 ∙ with_step e.0 e.1 s.0.0 e.2 e.3 letter ds w (d.1 ∙ ap (λ y. y.1) f) ∙ sym (line x is.2) ∙ sym (entry_plain x fits))

thesis_line : (x : Entry) → is_thesis x.statement ≡ true → line_text (an_entry x) ≡ entry_text 74 x
thesis_line x t = rw t refl

boundary_line : (x : Entry) → is_thesis x.statement ≡ false → line_text (an_entry x) ≡ entry_text 66 x
boundary_line x t = rw t refl

thesis_item_is : (i : Item) (cs : List ℕ) → thesis_item cs ≡ Ok (i, []) → IsLineOf is_name_token cs i
unfolding thesis_item
thesis_item_is i cs h =
    let e = in_turn (thesis_entry cs) stated_entry i [] h in
    entry_is true 74 e.0.0 i cs e.0.1 thesis_line (thesis_entry_is e.0.0 cs e.0.1 e.1) e.2

boundary_item_is : (i : Item) (cs : List ℕ) → boundary_item cs ≡ Ok (i, []) → IsLineOf is_name_token cs i
unfolding boundary_item
boundary_item_is i cs h =
    let e = in_turn (boundary_entry cs) stated_entry i [] h in
    entry_is false 66 e.0.0 i cs e.0.1 boundary_line (boundary_entry_is e.0.0 cs e.0.1 e.1) e.2

stated_back : (x : Entry) (w : Word) (ps : List Part) → IsWritten x.step w ps → stated_entry (x.statement, x.set, w, ps) [] ≡ Ok (an_entry x, [])
stated_back x w ps is =
    ap (λ t. and_then (told t []) (λ s. pure (an_entry (record { statement = x.statement; set = x.set; step = s })))) (written_is_told x.step w ps is)

thesis_item_back : (x : Entry) → EntryFits x → is_thesis x.statement ≡ true → thesis_item (line_text (an_entry x)) ≡ Ok (an_entry x, [])
unfolding thesis_item
thesis_item_back x fits t =
    let r = thesis_entry_back x fits t in
    after (thesis_entry (line_text (an_entry x))) (x.statement, x.set, r.0, r.1) [] stated_entry r.2 ∙ stated_back x r.0 r.1 r.3

boundary_item_back : (x : Entry) → EntryFits x → is_thesis x.statement ≡ false → boundary_item (line_text (an_entry x)) ≡ Ok (an_entry x, [])
unfolding boundary_item
boundary_item_back x fits t =
    let r = boundary_entry_back x fits t in
    after (boundary_entry (line_text (an_entry x))) (x.statement, x.set, r.0, r.1) [] stated_entry r.2 ∙ stated_back x r.0 r.1 r.3

-- ---- items
declared_is : (i : Item) (cs : List ℕ) → declared cs ≡ Ok (i, []) → IsLineOf is_name_token cs i
unfolding declared
declared_is i cs h =
    by_test (sees 86 cs) (λ y. variable_is i cs (taken _ _ (sees 86 cs) y h)) (λ n.
    let h = not_taken _ _ (sees 86 cs) n h in
    by_test (sees 77 cs) (λ y. metavariable_is i cs (taken _ _ (sees 77 cs) y h)) (λ n.
    let h = not_taken _ _ (sees 77 cs) n h in
    by_test (sees 82 cs) (λ y. rule_is i cs (taken _ _ (sees 82 cs) y h)) (λ n. mark_is i cs (not_taken _ _ (sees 82 cs) n h))))

item_is : (i : Item) (cs : List ℕ) → item cs ≡ Ok (i, []) → IsLineOf is_name_token cs i
unfolding item
item_is i cs h =
    by_test (sees 74 cs) (λ y. thesis_item_is i cs (taken _ _ (sees 74 cs) y h)) (λ n.
    let h = not_taken _ _ (sees 74 cs) n h in
    by_test (sees 66 cs) (λ y. boundary_item_is i cs (taken _ _ (sees 66 cs) y h)) (λ n. declared_is i cs (not_taken _ _ (sees 66 cs) n h)))

-- the choice by the first letter
chosen : (cs ds : List ℕ) (c : ℕ) → cs ≡ c ∷ ds → item cs ≡ item (c ∷ ds)
chosen cs ds c e = ap item e

at_thesis : (ds : List ℕ) → item (74 ∷ ds) ≡ thesis_item (74 ∷ ds)
unfolding item sees
at_thesis ds = refl

at_boundary : (ds : List ℕ) → item (66 ∷ ds) ≡ boundary_item (66 ∷ ds)
unfolding item sees
at_boundary ds = refl

at_variable : (ds : List ℕ) → item (86 ∷ ds) ≡ variable (86 ∷ ds)
unfolding item declared sees
at_variable ds = refl

at_metavariable : (ds : List ℕ) → item (77 ∷ ds) ≡ metavariable (77 ∷ ds)
unfolding item declared sees
at_metavariable ds = refl

at_rule : (ds : List ℕ) → item (82 ∷ ds) ≡ rule (82 ∷ ds)
unfolding item declared sees
at_rule ds = refl

at_mark : (ds : List ℕ) → item (87 ∷ ds) ≡ mark (87 ∷ ds)
unfolding item declared sees
at_mark ds = refl

-- an item of a line that begins so is read by its own reader
read_by : (c : ℕ) (reader : Reader Item) (cs ds : List ℕ) (i : Item) → cs ≡ c ∷ ds → ((ds : List ℕ) → item (c ∷ ds) ≡ reader (c ∷ ds)) → reader cs ≡ Ok (i, []) → item cs ≡ Ok (i, [])
read_by c reader cs ds i e at h = ap item e ∙ at ds ∙ ap reader (sym e) ∙ h

entry_back : (x : Entry) → EntryFits x → item (line_text (an_entry x)) ≡ Ok (an_entry x, [])
entry_back x fits =
    by_test (is_thesis x.statement)
    (λ t. read_by 74 thesis_item (line_text (an_entry x)) _ (an_entry x) (thesis_line x t) at_thesis (thesis_item_back x fits t))
    (λ t. read_by 66 boundary_item (line_text (an_entry x)) _ (an_entry x) (boundary_line x t) at_boundary (boundary_item_back x fits t))

item_back : (i : Item) → ItemFits is_name_token i → item (encode_utf8_all (line_text i)) ≡ Ok (i, [])
item_back (a_variable v n p) h = read_by 86 variable _ _ (a_variable v n p) (variable_line v n p h.0 h.2) at_variable (variable_back v n p h.0 h.1 h.2)
item_back (a_metavariable n p) h = read_by 77 metavariable _ _ (a_metavariable n p) (metavariable_line n p h.1) at_metavariable (metavariable_back n p h.0 h.1)
item_back (a_rule n ms p) h = read_by 82 rule _ _ (a_rule n ms p) (rule_line n ms p h.1 h.2) at_rule (rule_back n ms p h.0 h.1 h.2)
item_back (an_entry x) h = ap item (entry_plain x h) ∙ entry_back x h
item_back (a_mark p) h = read_by 87 mark _ _ (a_mark p) (mark_line p h) at_mark (mark_back p h)

-- ---- whole lines
ended_is : (cs rest : List ℕ) → ended cs ≡ Ok (tt, rest) → (cs ≡ []) × (rest ≡ [])
unfolding ended
ended_is [] rest h = (refl, sym (ap (λ x. x.1) (ok_ok (tt, []) (tt, rest) h)))
ended_is (c ∷ cs) rest h = absurd (err_ok Form (tt, rest) h)

pub whole_is : (i : Item) (cs rest : List ℕ) → whole cs ≡ Ok (i, rest) → IsLineOf is_name_token cs i
unfolding whole
whole_is i cs rest h =
    let p = in_turn (item cs) (λ i. ended >>= (λ _. pure i)) i rest h in
    let q = in_turn (ended p.0.1) (λ _. pure p.0.0) i rest p.2 in
    let e = ok_ok (p.0.0, q.0.1) (i, rest) q.2 in
    let d = ended_is p.0.1 q.0.1 q.1 in
    item_is i cs (p.1 ∙ ap₂ (λ a b. Ok (a, b)) (ap (λ x. x.0) e) d.0)

pub whole_back : (i : Item) (cs : List ℕ) → IsLineOf is_name_token cs i → whole cs ≡ Ok (i, [])
unfolding whole ended
whole_back i cs is = ap whole is.1 ∙ after (item (encode_utf8_all (line_text i))) i [] (λ i. ended >>= (λ _. pure i)) (item_back i is.0)

-- ---- what a function ensures that reads a whole line
form_is_no_memory : Form ≢ Memory
form_is_no_memory e = cc

pub line_some : (table : List Expression) (cs bytes new : List ℕ) (result : Result AnyStated Fault) → cs ≡ bytes → ReadsItem (whole cs) table result new
    → IfOk result (λ x. StatedBelow (length table) x × IsLineOf is_name_token bytes (item_in table x))
line_some table cs bytes new (Ok x) same h = (h.0, subst (λ l. IsLineOf is_name_token l (item_in table x)) same (whole_is (item_in table x) cs new h.1))
line_some table cs bytes new (Err e) same h = tt

pub line_none : (table : List Expression) (cs bytes new : List ℕ) (result : Result AnyStated Fault) → cs ≡ bytes → ReadsItem (whole cs) table result new
    → IsErrOf result Form → IsItemLine is_name_token bytes → ⊥
line_none table cs bytes new result same h e is =
    let l : IsLineOf is_name_token cs is.0 = subst (λ l. IsLineOf is_name_token l is.0) (sym same) is.1 in
    err_ok Form (is.0, []) (sym (subst (λ r. ReadsItem (whole cs) table r new) e h form_is_no_memory) ∙ whole_back is.0 cs l)

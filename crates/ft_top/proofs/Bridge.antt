-- From an export to the verdict on it.
use Rattle.std.proofs.Common.{◌≡◌, ap, refl, subst, ℕ, true, List, [], Some}
use Rattle.ft_common.proofs.Options.{one_value}
use Rattle.ft_base.specs.Names.{is_name_token}
use Rattle.ft_grammar.specs.declared.token.Kind.{Kind}
use Rattle.ft_items.specs.Item.{Item}
use Rattle.ft_items.specs.Good.{Good, counts, Accepted, verdict}
use Rattle.ft_items.specs.Texts.{IsTextOf}
use Rattle.ft_sound.specs.Soundness.{EntriesDerivable, GoodAreAccepted}
use Rattle.ft_texts.specs.Laws.{Visible, AtMostOneList, TextHasNoFault, AtMostOneFault}
use Rattle.ft_applications_meaning.specs.declared.syntax.Command.{Command}
use Rattle.ft_applications_meaning.specs.Grammar.{AreCommands}
use Rattle.ft_applications_meaning.specs.Events.{Event, events}
use Rattle.ft_applications_meaning.specs.Transcript.{IsPlainSource, IsTranscript, status_of}
use Rattle.ft_applications_meaning.specs.Histories.{IsDerivationOf}
use Rattle.ft_verdicts.specs.Verdicts.{IsVerdict, verdict_line, verdict_status, fault_line}
use Rattle.ft_answers.specs.Exports.{IsExport}
use Rattle.ft_top.specs.Laws.{IsAccepted, Headline, OneVerdict}
use Rattle.ft_top.proofs.Stating.{shown_derivable}

-- a good list is accepted by `check`
pub accepted_by_check : GoodAreAccepted → (text : List ℕ) (items : List Item) → IsTextOf is_name_token text items → Good items
    → IsVerdict is_name_token text (verdict_line (Accepted (counts items))) 0
accepted_by_check good text items t g = subst (λ v. IsVerdict is_name_token text (verdict_line v) (verdict_status v)) (good items g) (IsVerdict.of_items items t)

-- tokens are those of one list of commands
abbrev pub OneTree : Type 0
OneTree = (cs ds : List Command) (ks : List Kind) → AreCommands cs ks → AreCommands ds ks → cs ≡ ds

pub one_run : OneTree → (bytes : List ℕ) (cs ds : List Command) (es fs : List Event) → IsPlainSource bytes cs → IsPlainSource bytes ds → events [] cs ≡ Some es → events [] ds ≡ Some fs → es ≡ fs
one_run one bytes cs ds es fs s t h k =
    one_value (events [] ds) es fs (subst (λ cs. events [] cs ≡ Some es) (one cs ds _ s.grammar t.grammar) h) k

exported : OneTree → GoodAreAccepted → EntriesDerivable → (bytes : List ℕ) (cs : List Command) (es : List Event) → IsPlainSource bytes cs → events [] cs ≡ Some es
    → (text : List ℕ) (n : ℕ) → IsExport bytes text n → (n ≡ status_of es) × IsAccepted text es
exported one good derivable bytes cs es s h text n (IsExport.of_run ds fs items t s' k d x) =
    let same : fs ≡ es = one_run one bytes ds cs fs es s' s k h in (
      ap status_of same,
      record {
        items = items;
        written = x;
        derivation = subst (λ es. IsDerivationOf items es) same d;
        shown = shown_derivable derivable items es (subst (λ es. IsDerivationOf items es) same d);
        derivable = derivable items d.good;
        accepted = good items d.good;
        line = accepted_by_check good t items x d.good;
      },
    )
exported one good derivable bytes cs es s h text n (IsExport.of_another none) = absurd (none cs es s h)

pub headline : OneTree → GoodAreAccepted → EntriesDerivable → Headline
headline one good derivable bytes cs es s h = (IsTranscript.of_commands cs es s h, exported one good derivable bytes cs es s h)

pub one_verdict : ((n : List ℕ) → is_name_token n ≡ true → Visible n) → AtMostOneList → TextHasNoFault → AtMostOneFault → OneVerdict
one_verdict visible list none fault bytes line other n m (IsVerdict.of_items items t) (IsVerdict.of_items others u) =
    let same : items ≡ others = list is_name_token visible bytes items others t u in
    (ap (λ items. verdict_line (verdict items)) same, ap (λ items. verdict_status (verdict items)) same)
one_verdict visible list none fault bytes line other n m (IsVerdict.of_items items t) (IsVerdict.of_fault g u) = absurd (none is_name_token visible bytes items g t u)
one_verdict visible list none fault bytes line other n m (IsVerdict.of_fault f t) (IsVerdict.of_items others u) = absurd (none is_name_token visible bytes others f u t)
one_verdict visible list none fault bytes line other n m (IsVerdict.of_fault f t) (IsVerdict.of_fault g u) = (ap fault_line (fault is_name_token bytes f g t u), refl)

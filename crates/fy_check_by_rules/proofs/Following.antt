-- one step more of a legal journal
use Rattle.std.proofs.Common.{◌≡◌, ℕ, ◌+◌, ◌<◌, ◌≤◌, Bool, true, false, List, [], ◌∷◌, ◌++◌, length, take, get_or, refl, sym, ◌∙◌, ap, subst, arith, length-append}
use Rattle.std.specs.Bool.{Decides}
use Rattle.fy_acts.specs.declared.entry.Entry.{Entry}
use Rattle.fy_acts.specs.declared.reply.Reply.{Reply}
use Rattle.fy_acts.specs.declared.version.Version.{Version}
use Rattle.fy_cluster.specs.Setup.{Setup}
use Rattle.fy_cluster.specs.History.{step_of, history}
use Rattle.fy_cluster.specs.Replies.{reply}
use Rattle.fy_cluster.specs.Survival.{EntryAddsStep}
use Rattle.fy_cluster.specs.Versions.{LegalUnder, NextLegalUnder}
use Rattle.fy_acts.specs.Versions.{knows}
use Rattle.fy_check_by_rules.specs.declared.step.FoundStep.{FoundStep}
use Rattle.fy_check_by_rules.specs.Past.{as_step, past}
use Rattle.fy_check_by_rules.specs.Steps.{AreStepsOf}
use Rattle.fy_check_by_rules.proofs.Lists.{one_more}
use Rattle.std.proofs.lemmas.Bool.{false≢true}
use Rattle.fy_check_by_rules.proofs.Nexts.{Tells}
use Rattle.fy_check_by_rules.proofs.Pasts.{past_none, past_push}

pub full : NextLegalUnder → (version : Version) (c : Setup) (before : List Entry) (e : Entry) (steps : List FoundStep) → AreStepsOf version c before steps → c.limit ≤ length steps → Tells version c before e false
full law version c before e steps are limit = (
  λ f. absurd (false≢true f),
  λ more. let room = ((law version c before e are.legal).0 more).0.room in absurd (omega (arith, limit, are.count, room)),
)

pub replied_so : NextLegalUnder → (version : Version) (c : Setup) (before : List Entry) (e : Entry) (steps : List FoundStep) (answered : Reply) (same : Bool) → AreStepsOf version c before steps → e.at ≡ length before → length steps < c.limit → knows version e.act ≡ true
    → answered ≡ reply c (past steps) e.by e.act → Decides same (answered ≡ e.reply) → Tells version c before e same
replied_so law version c before e steps answered same are place limit known right decides =
    let by_rules : answered ≡ reply c (history c before) e.by e.act = right ∙ ap (λ h. reply c h e.by e.act) are.past in (
      λ t. (law version c before e are.legal).1 (record { room = omega (arith, limit, are.count); place = place; right = sym (decides.0 t) ∙ by_rules }, known),
      λ more. decides.1 (by_rules ∙ sym ((law version c before e are.legal).0 more).0.right),
    )

-- the step of the entry is put last
pub put_last : EntryAddsStep → (version : Version) (c : Setup) (before : List Entry) (e : Entry) (steps : List FoundStep) (s : FoundStep) → AreStepsOf version c before steps → as_step (past steps) s ≡ step_of c (past steps) e
    → LegalUnder version c (before ++ e ∷ []) → AreStepsOf version c (before ++ e ∷ []) (steps ++ s ∷ [])
put_last law version c before e steps s are did legal = record {
  past = past_push steps s ∙ ap (λ m. m ∷ past steps) did ∙ ap (λ h. step_of c h e ∷ h) are.past ∙ sym (law c before e);
  count = length-append steps (s ∷ []) ∙ ap (λ n. n + 1) are.count ∙ sym (length-append before (e ∷ []));
  legal = legal;
}

-- the entries up to the next place
pub one_further : (version : Version) (c : Setup) (entries : List Entry) (i : ℕ) (e : Entry) (steps : List FoundStep) → i < length entries → e ≡ get_or entries i e → AreStepsOf version c (take i entries ++ e ∷ []) steps → AreStepsOf version c (take (i + 1) entries) steps
one_further version c entries i e steps l is are = subst (λ xs. AreStepsOf version c xs steps) (sym (one_more entries i e l is)) are

-- before the first entry
pub none_yet : (version : Version) (c : Setup) → AreStepsOf version c [] []
none_yet version c = record { past = past_none; count = refl; legal = record { legal = (omega arith, tt); known = refl } }

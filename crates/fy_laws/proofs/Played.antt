-- the journal of acts, made entry by entry, is legal
use Rattle.std.specs.Prelude.{⊤}
use Rattle.std.proofs.Common.{◌≡◌, ℕ, List, [], ◌∷◌, length, map, true, nat_le, leb-true, subst}
use Rattle.fy_locality.specs.Locality.{values_of}
use Rattle.fy_policy.specs.Sat.{satisfies, all_satisfy}
use Rattle.fy_decide.specs.Verdicts.{bar, verdict}
use Rattle.fy_acts.specs.declared.act.Act.{Act}
use Rattle.fy_acts.specs.declared.entry.Entry.{Entry}
use Rattle.fy_cluster.specs.Setup.{Setup}
use Rattle.fy_cluster.specs.History.{History, step_of}
use Rattle.fy_cluster.specs.Replies.{reply, reasons, refusals, answer, LegalAfter, Legal}
use Rattle.fy_cluster.specs.Survival.{by_and_act}

-- what a proof unfolds to compute the replies of a written journal
unfoldable pub cluster_on_literals : ⊤
unfolding reply reasons refusals answer bar verdict satisfies all_satisfy values_of
cluster_on_literals = tt

-- the entry of an act
abbrev pub replied : Setup → History → ℕ × Act → Entry
replied c h x = record { at = length h; by = x.0; act = x.1; reply = reply c h x.0 x.1 }

-- the journal of these acts
abbrev pub played : Setup → History → List (ℕ × Act) → List Entry
played c h [] = []
played c h (x ∷ rest) = replied c h x ∷ played c (step_of c h (replied c h x) ∷ h) rest

played_is_legal : (c : Setup) (h : History) (acts : List (ℕ × Act)) → LegalAfter c h (played c h acts)
played_is_legal c h [] = tt
played_is_legal c h (x ∷ rest) = (record { place = λ i. length h; right = λ i. reply c h x.0 x.1 }, played_is_legal c (step_of c h (replied c h x) ∷ h) rest)

-- a journal is legal where it is that of its own acts and not too long
pub legal_by_acts : (c : Setup) (journal : List Entry) → nat_le (length journal) c.limit ≡ true → played c [] (map by_and_act journal) ≡ journal → Legal c journal
legal_by_acts c journal fits same = (leb-true (length journal) c.limit fits, subst (LegalAfter c []) same (played_is_legal c [] (map by_and_act journal)))

-- grants and protections after a history, and the situation of an actor
use Rattle.std.specs.Prelude.{ℕ, Bool, false, ◌&&◌, ◌||◌, not, List, [], ◌∷◌, ◌++◌, Option, Some, None, ◌==◌, filter, remove, if◌then◌else◌}
use Rattle.std.specs.List.{list_any}
use Rattle.fy_kinds.specs.declared.kind_set.KindSet.{KindSet}
use Rattle.fy_kinds.specs.Kinds.{Deed, has}
use Rattle.fy_grants.specs.declared.grant.Grant.{Grant}
use Rattle.fy_decide.specs.Verdicts.{Situation}
use Rattle.fy_cluster.specs.declared.config.Protection.{Protection}
use Rattle.fy_cluster.specs.Setup.{Setup}
use Rattle.fy_cluster.specs.History.{History, destroyed, left, gives, takes_grant, protects, unprotects}

-- a Give to the actor puts its grant last
abbrev pub with_given : ℕ → Option Grant → List Grant → List Grant
with_given a None grants = grants
with_given a (Some grant) grants = if grant.actor == a then grants ++ grant ∷ [] else grants

-- a Take closes the actor's list up
abbrev pub without_taken : ℕ → Option (ℕ × ℕ) → List Grant → List Grant
without_taken a None grants = grants
without_taken a (Some taken) grants = if taken.0 == a then remove grants taken.1 else grants

-- those of the grants that are the actor's
abbrev pub grants_to : ℕ → List Grant → List Grant
grants_to a grants = filter (λ grant. grant.actor == a) grants

-- the actor's grants
abbrev pub grants : Setup → History → ℕ → List Grant
grants c [] a = grants_to a c.grants
grants c (m ∷ h) a =
    without_taken a (takes_grant m.entry.act m.entry.reply)
    (with_given a (gives m.entry.act m.entry.reply) (grants c h a))

-- whether the change names the process and the deed
abbrev pub changes : ℕ → Deed → Option (ℕ × KindSet) → Bool
changes p deed None = false
changes p deed (Some change) = change.0 == p && has change.1 deed

-- one of the protections is of the process and from the deed
abbrev pub some_protects : List Protection → ℕ → Deed → Bool
some_protects protections p deed =
    list_any (λ it. it.process.0 == p && has it.kinds deed) protections

-- the process is protected from the deed: the last change of the two says so, or else the setup
abbrev pub is_protected : Setup → History → ℕ → Deed → Bool
is_protected c [] p deed = some_protects c.protections p deed
is_protected c (m ∷ h) p deed =
    changes p deed (protects m.entry.act m.entry.reply)
    || not (changes p deed (unprotects m.entry.act m.entry.reply)) && is_protected c h p deed

-- what an answer to the actor rests on
abbrev pub situation : Setup → History → ℕ → Situation
situation c h a = record {
  processes = c.processes;
  policies = c.policies;
  grants = grants c h a;
  is_protected = is_protected c h;
  destroyed = destroyed h;
  left = left c h;
}

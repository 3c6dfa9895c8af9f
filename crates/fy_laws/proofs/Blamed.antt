-- a store beside a guard of the six that lost its records, by wrong heals
use Rattle.std.proofs.Common.{◌≡◌, ℕ, zero, suc, ◌+◌, true, false, [], ◌∷◌, refl, sym, ◌∙◌, subst, arith, inl, inr}
use Rattle.std.proofs.lemmas.Bool.{false≢true, true≢false}
use Rattle.fy_policy.specs.Laws.{TestIsSatisfaction}
use Rattle.fy_cluster.specs.Replies.{Legal}
use Rattle.fy_holders.specs.Destroyed.{destroyed_since}
use Rattle.fy_holders.specs.Blames.{AreShortSince, KeepsTwo, IsByTwo, IsHeldSince}
use Rattle.fy_laws.specs.Blamed as of
use Rattle.fy_laws.specs.Clusters.{six, in_two_zones, six_processes}
use Rattle.fy_laws.specs.Stores as stores
use Rattle.fy_laws.proofs.Played.{legal_by_acts, cluster_on_literals}
use Rattle.fy_laws.proofs.Stores.{covered, first_or_other}

pub is_legal : Legal six of.next_zone_emptied
unfolding cluster_on_literals
is_legal = legal_by_acts six of.next_zone_emptied refl refl

struck_since : (p : ℕ) → stores.these (0 ∷ 2 ∷ []) p ≡ true → stores.these (2 ∷ []) p ≡ false → destroyed_since six stores.zone_emptied 0 p ≡ true
struck_since p had lost = elim (first_or_other 0 (2 ∷ []) p had) [
  | inl e ↦ subst (λ q. destroyed_since six stores.zone_emptied 0 q ≡ true) e refl
  | inr k ↦ absurd (true≢false (sym k ∙ lost))
]

emptied_since : (p : ℕ) → stores.these (2 ∷ []) p ≡ true → destroyed_since six of.next_zone_emptied 5 p ≡ true
emptied_since p had = elim (first_or_other 2 [] p had) [
  | inl e ↦ subst (λ q. destroyed_since six of.next_zone_emptied 5 q ≡ true) e refl
  | inr k ↦ absurd (false≢true k)
]

goes_on : (n : ℕ) → KeepsTwo six (of.misled n) (of.misled (suc n))
goes_on zero = record {
  grows = (stores.zone_emptied, refl);
  dies = λ r p a had lost. inl (struck_since p had lost);
  acknowledges = λ r was is. absurd (true≢false was);
}
goes_on (suc zero) = record {
  grows = (_, refl);
  dies = λ r p a had lost. absurd (true≢false (sym had ∙ lost));
  acknowledges = λ r was is. absurd (true≢false was);
}
goes_on (suc (suc zero)) = record {
  grows = (_, refl);
  dies = λ r p a had lost. inl (emptied_since p had);
  acknowledges = λ r was is. absurd (true≢false was);
}
goes_on (suc (suc (suc n))) = record {
  grows = ([], refl);
  dies = λ r p a had lost. absurd (false≢true had);
  acknowledges = λ r was is. absurd (true≢false was);
}

pub by_two : IsByTwo six of.misled
by_two = record {
  begins = λ r a. covered [] r;
  goes_on = λ n. let e : suc n ≡ n + 1 = omega arith in subst (λ m. KeepsTwo six (of.misled n) (of.misled m)) e (goes_on n);
}

pub nobody : (r : ℕ) → IsHeldSince six 0 of.all_lost r → ⊥
nobody r held = false≢true held.holds

pub not_short : TestIsSatisfaction → AreShortSince six of.next_zone_emptied 0 → ⊥
unfolding cluster_on_literals
not_short law short = short.0 ((law six_processes in_two_zones (destroyed_since six of.next_zone_emptied 0)).0 refl)

pub short_first : TestIsSatisfaction → AreShortSince six stores.both_healed 0
unfolding cluster_on_literals
short_first law = (λ sat. false≢true ((law six_processes in_two_zones (destroyed_since six stores.both_healed 0)).1 sat), tt)

pub short_second : TestIsSatisfaction → AreShortSince six of.next_zone_emptied 5
unfolding cluster_on_literals
short_second law = (λ sat. false≢true ((law six_processes in_two_zones (destroyed_since six of.next_zone_emptied 5)).1 sat), tt)

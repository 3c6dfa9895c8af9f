-- a store beside a guard of the six that keeps the premises, and what breaks one
use Rattle.std.proofs.Common.{◌≡◌, ℕ, zero, suc, ◌+◌, ◌<◌, true, false, List, [], ◌∷◌, refl, sym, ◌∙◌, subst, arith, ltb-true, leb-true, inl, inr, ◌⊎◌, ◌==◌, eqb-true}
use Rattle.std.specs.Prelude.{codes, slice_index_or}
use Rattle.std.specs.List.{IsDistinct}
use Rattle.std.proofs.lemmas.Bool.{false≢true, true≢false, or_cases, or_parts}
use Rattle.fy_policy.specs.Laws.{TestIsSatisfaction}
use Rattle.fy_policy.specs.Tree.{Tree}
use Rattle.fy_policy.specs.Sat.{Sat, satisfies}
use Rattle.fy_decide.specs.Safety.{with_set}
use Rattle.fy_acts.specs.declared.entry.Entry.{Entry}
use Rattle.fy_cluster.specs.History.{ProcessSet, history, destroyed}
use Rattle.fy_cluster.specs.Replies.{Legal}
use Rattle.fy_cluster.specs.Stores.{Moment, known_destroyed, IsCovered, KeepsPremises, IsGuarded, IsHeld}
use Rattle.fy_laws.specs.Clusters.{six, in_two_zones, six_processes}
use Rattle.fy_laws.specs.Stores as of
use Rattle.fy_laws.proofs.Played.{legal_by_acts, cluster_on_literals}

-- processes of two zones are enough, whoever is destroyed
two_zones : (others : ProcessSet) → Sat six_processes in_two_zones (with_set (of.these (0 ∷ 2 ∷ [])) others)
unfolding Sat IsDistinct
two_zones others = record {
  names = codes "z0" ∷ codes "z1" ∷ [];
  many = leb-true 2 2 refl;
  different = ((refl, tt), (tt, tt));
  each = (((0, refl), (0, ltb-true 0 6 refl, refl)), (((2, refl), (2, ltb-true 2 6 refl, refl)), tt));
}

pub covered : (journal : List Entry) (r : ℕ) → IsCovered six (of.moment journal (0 ∷ 2 ∷ []) true) r
covered journal r = (in_two_zones, (0, ltb-true 0 1 refl, refl), two_zones (destroyed (history six journal)))

-- ---- the steps

writes : KeepsPremises six of.unwritten of.written
writes = record {
  grows = ([], refl);
  dies = λ r p a had lost. absurd (false≢true had);
  acknowledges = λ r was is. covered [] r;
  heals = λ p r healed a. absurd (false≢true healed.was);
}

-- who is one of these is the first or one of the others
pub first_or_other : (a : ℕ) (ps : List ℕ) (p : ℕ) → of.these (a ∷ ps) p ≡ true → (a ≡ p) ⊎ (of.these ps p ≡ true)
first_or_other a ps p e = elim (or_cases (a == p) (of.these ps p) e) [ inl k ↦ inl (eqb-true a p k) | inr k ↦ inr k ]

only_struck : (p : ℕ) → of.these (0 ∷ 2 ∷ []) p ≡ true → of.these (2 ∷ []) p ≡ false → destroyed (history six of.zone_emptied) p ≡ true
only_struck p had lost = elim (first_or_other 0 (2 ∷ []) p had) [
  | inl e ↦ subst (λ q. destroyed (history six of.zone_emptied) q ≡ true) e refl
  | inr k ↦ absurd (true≢false (sym k ∙ lost))
]

strikes : KeepsPremises six of.written of.struck_once
strikes = record {
  grows = (of.zone_emptied, refl);
  dies = λ r p a had lost. inl (only_struck p had lost);
  acknowledges = λ r was is. absurd (true≢false was);
  heals = λ p r healed a. absurd (false≢true healed.was);
}

first_had : (p : ℕ) → of.these (2 ∷ []) p ≡ true → of.these (0 ∷ 2 ∷ []) p ≡ false → destroyed (history six of.first_healed) p ≡ true
first_had p had lost = absurd (true≢false (sym had ∙ (or_parts (0 == p) (of.these (2 ∷ []) p) lost).1))

copies : KeepsPremises six of.struck_once of.copied_and_healed
copies = record {
  grows = (_, refl);
  dies = λ r p a had lost. inl (first_had p had lost);
  acknowledges = λ r was is. absurd (true≢false was);
  heals = λ p r healed a. inr (covered of.first_healed r);
}

heals_beside : KeepsPremises six of.copied_and_healed of.healed_beside
heals_beside = record {
  grows = (_, refl);
  dies = λ r p a had lost. absurd (true≢false (sym had ∙ lost));
  acknowledges = λ r was is. absurd (true≢false was);
  heals = λ p r healed a. inr (covered of.both_healed r);
}

stays : KeepsPremises six of.healed_beside of.healed_beside
stays = record {
  grows = ([], refl);
  dies = λ r p a had lost. absurd (true≢false (sym had ∙ lost));
  acknowledges = λ r was is. absurd (true≢false was);
  heals = λ p r healed a. inr (covered of.both_healed r);
}

goes_on : (n : ℕ) → KeepsPremises six (of.stored n) (of.stored (suc n))
goes_on zero = writes
goes_on (suc zero) = strikes
goes_on (suc (suc zero)) = copies
goes_on (suc (suc (suc zero))) = heals_beside
goes_on (suc (suc (suc (suc n)))) = stays

are_legal : (n : ℕ) → Legal six (of.stored n).journal
unfolding cluster_on_literals
are_legal zero = legal_by_acts six [] refl refl
are_legal (suc zero) = legal_by_acts six [] refl refl
are_legal (suc (suc zero)) = legal_by_acts six of.zone_emptied refl refl
are_legal (suc (suc (suc zero))) = legal_by_acts six of.first_healed refl refl
are_legal (suc (suc (suc (suc n)))) = legal_by_acts six of.both_healed refl refl

pub guarded : IsGuarded six of.stored
guarded = record {
  legal = are_legal;
  begins = λ r a. absurd (false≢true a);
  goes_on = λ n. let e : suc n ≡ n + 1 = omega arith in subst (λ m. KeepsPremises six (of.stored n) (of.stored m)) e (goes_on n);
}

pub acknowledged_then : (n r : ℕ) → (of.stored (n + 1)).acknowledged r ≡ true
acknowledged_then n r = let e : suc n ≡ n + 1 = omega arith in subst (λ m. (of.stored m).acknowledged r ≡ true) e (at n)
  where
    at : (n : ℕ) → (of.stored (suc n)).acknowledged r ≡ true
    at zero = refl
    at (suc zero) = refl
    at (suc (suc zero)) = refl
    at (suc (suc (suc n))) = refl

-- ---- what a heal without a copy may take

other_zones : (others : ProcessSet) → Sat six_processes in_two_zones (with_set (of.these (2 ∷ 4 ∷ [])) others)
unfolding Sat IsDistinct
other_zones others = record {
  names = codes "z1" ∷ codes "z2" ∷ [];
  many = leb-true 2 2 refl;
  different = ((refl, tt), (tt, tt));
  each = (((2, refl), (2, ltb-true 2 6 refl, refl)), (((4, refl), (4, ltb-true 4 6 refl, refl)), tt));
}

pub healed_rightly : KeepsPremises six of.in_three_zones of.healed_beside_two
healed_rightly = record {
  grows = (of.first_healed, refl);
  dies = λ r p a had lost. inr (in_two_zones, (0, ltb-true 0 1 refl, refl), other_zones (destroyed (history six of.first_healed)));
  acknowledges = λ r was is. absurd (true≢false was);
  heals = λ p r healed a. absurd (false≢true healed.was);
}

-- ---- what breaks a premise

-- the six have one policy
only_policy : (P : Tree) (k : ℕ) → k < 1 → slice_index_or (in_two_zones ∷ []) k P ≡ P → P ≡ in_two_zones
only_policy P zero within e = sym e
only_policy P (suc k) within e = absurd (omega (arith, within))

uncovered : TestIsSatisfaction → (now : Moment) (r : ℕ) → satisfies six_processes in_two_zones (with_set (now.holders r) (known_destroyed six now)) ≡ false → IsCovered six now r → ⊥
uncovered law now r short is =
    let s : ProcessSet = with_set (now.holders r) (known_destroyed six now) in
    let sat : Sat six_processes in_two_zones s = subst (λ P. Sat six_processes P s) (only_policy is.0 is.1.0 is.1.1 is.1.2) is.2 in
    false≢true (sym short ∙ (law six_processes in_two_zones s).1 sat)

pub unasked : TestIsSatisfaction → KeepsPremises six of.written of.died_unasked → ⊥
unfolding cluster_on_literals
unasked law kept = elim (kept.dies 0 2 refl refl refl) [
  | inl is ↦ false≢true is
  | inr is ↦ uncovered law of.died_unasked 0 refl is
]

pub too_soon : TestIsSatisfaction → KeepsPremises six of.unwritten of.one_zone_has_it → ⊥
unfolding cluster_on_literals
too_soon law kept = uncovered law of.one_zone_has_it 0 refl (kept.acknowledges 0 refl refl)

pub without : TestIsSatisfaction → KeepsPremises six of.struck_once of.healed_without → ⊥
unfolding cluster_on_literals
without law kept = elim (kept.heals 0 0 (record { was = refl; is = refl }) refl) [
  | inl has ↦ false≢true has
  | inr is ↦ uncovered law of.healed_without 0 refl is
]

pub emptied : IsHeld six of.last_holder_emptied 0 → ⊥
emptied held = at held.holder held.holds held.remains
  where
    at : (p : ℕ) → of.these (0 ∷ []) p ≡ true → destroyed (history six of.zone_emptied) p ≡ false → ⊥
    at p holds remains = elim (first_or_other 0 [] p holds) [
      | inl e ↦ true≢false (subst (λ q. destroyed (history six of.zone_emptied) q ≡ false) (sym e) remains)
      | inr k ↦ false≢true k
    ]

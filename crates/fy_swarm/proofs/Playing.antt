-- who is in a team of all processes, and who comes before an actor
use Rattle.std.proofs.Common.{arith, ◌≡◌, ◌∙◌, ◌≤◌, ◌<◌, ◌+◌, ℕ, Bool, true, false, List, [], ◌∷◌, ◌++◌, length, map, get_or, refl, ap}
use Rattle.std.specs.Prelude.{if◌then◌else◌, slice_get, Some}
use Rattle.std.specs.List.{AllPairs, range_with_len}
use Rattle.std.proofs.lemmas.List.FromFn.{length-map-range_with_len, map-range_with_len_more}
use Rattle.std.proofs.lemmas.List.Sums.{count_by_more_yes, count_by_more_no}
use Rattle.std.proofs.lemmas.Option.{get_or_from_slice_get}
use Rattle.fy_locality.specs.declared.ProcId.{ProcId}
use Rattle.fy_locality.specs.declared.locality.Locality.{Locality}
use Rattle.fy_locality.specs.declared.TheConstants.{MOST_PROCESSES}
use Rattle.fy_team.specs.Teams.{AreMembers}
use Rattle.fy_cluster.specs.declared.role.Role.{Role}
use Rattle.fy_actors.specs.Plans.{everyone}
use Rattle.fy_actors.proofs.PlansOfAll.{process, at_place, everybody_count}
use Rattle.fy_swarm.specs.Swarm.{is_fault, faults_before}

-- ---- the payloads and the team of who stores

pub one_payload_more : (n : ℕ) → map (λ byte. byte ∷ []) (range_with_len 0 (n + 1)) ≡ map (λ byte. byte ∷ []) (range_with_len 0 n) ++ (n ∷ []) ∷ []
one_payload_more n = map-range_with_len_more (λ byte. byte ∷ []) 0 n n (let e : 0 + n ≡ n = omega arith in e)

-- each of all processes is below those behind it
all_rise : (n : ℕ) → AllPairs (λ p q. p.0 < q.0) (map process (range_with_len 0 n))
all_rise n i j d before lt =
    let long = length-map-range_with_len process 0 n in
    let within : j < n = omega arith in
    let first : (get_or (map process (range_with_len 0 n)) i d).0 ≡ i = ap (λ (p : ProcId). p.0) (at_place n i d (omega arith)) in
    let second : (get_or (map process (range_with_len 0 n)) j d).0 ≡ j = ap (λ (p : ProcId). p.0) (at_place n j d within) in
    omega arith

pub are_members : (processes : List Locality) → length processes ≤ MOST_PROCESSES → AreMembers (everyone processes)
are_members processes few =
    record {
      few = let long = everybody_count processes in omega arith;
      rising = all_rise (length processes);
    }

-- ---- fault actors that come before

pub fault_step : (roles : List Role) (i : ℕ) (role : Role) → i < length roles → slice_get roles i ≡ Some role → faults_before roles (i + 1) ≡ faults_before roles i + (if is_fault role then 1 else 0)
fault_step roles i role within is = by (is_fault role) refl
  where
    at : is_fault (get_or roles i role) ≡ is_fault role
    at = ap is_fault (get_or_from_slice_get roles i role role is)

    by : (b : Bool) → is_fault role ≡ b → faults_before roles (i + 1) ≡ faults_before roles i + (if b then 1 else 0)
    by true test = count_by_more_yes is_fault roles i role within (at ∙ test)
    by false test =
        count_by_more_no is_fault roles i role within (at ∙ test)
        ∙ (let e : faults_before roles i ≡ faults_before roles i + 0 = omega arith in e)

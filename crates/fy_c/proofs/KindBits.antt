-- a set of kinds by its bits
use Rattle.std.proofs.Common.{◌≡◌, ◌≢◌, ◌<◌, ◌≤◌, ◌/◌, ◌%◌, ◌∙◌, ℕ, Bool, true, false, ap, ap₂, sym, refl, arith}
use Rattle.std.specs.Prelude.{◌==◌, if◌then◌else◌}
use Rattle.std.proofs.lemmas.Bool.Decides.{nat_tests}
use Rattle.fy_kinds.specs.BitsBack.{each_below}
use Rattle.fy_kinds.specs.Kinds.{Striking, Clogging, bits_of, in_either, no_deed, only}
use Rattle.fy_kinds.specs.Members.{Members}
use Rattle.fy_kinds.specs.declared.kind.Kind.TheVariants.{RebootProcess, Reboot, RebootAndDelete, KillInstantly}

-- a set where it is asked for
abbrev pub asked : Bool → Members → Members
asked is kinds = if is then kinds else no_deed

-- the set that is put together of those whose bit is 1
abbrev pub gathered : ℕ → Members
gathered bits =
    in_either
    (in_either
    (in_either
    (in_either (asked (bits % 2 == 1) (only (Striking RebootProcess)))
    (asked (bits / 2 % 2 == 1) (only (Striking Reboot))))
    (asked (bits / 4 % 2 == 1) (only (Striking RebootAndDelete))))
    (asked (bits / 8 % 2 == 1) (only (Striking KillInstantly))))
    (asked (bits / 16 % 2 == 1) (only Clogging))

alike : (a b : ℕ) → (a == b) ≡ true → a ≡ b
alike a b e = grind (arith, nat_tests)

-- it has these bits
pub gathered_bits : (bits : ℕ) → bits < 32 → bits_of (gathered bits) ≡ bits
gathered_bits bits h = alike _ _ (each_below (λ n. bits_of (gathered n) == n) 32 refl bits h)

-- what is put together step by step has them
pub gathered_are : (bits : ℕ) (mild reboot delete kill clog ab abc abcd all : Members) → bits < 32 →
    mild ≡ asked (bits % 2 == 1) (only (Striking RebootProcess)) →
    reboot ≡ asked (bits / 2 % 2 == 1) (only (Striking Reboot)) →
    delete ≡ asked (bits / 4 % 2 == 1) (only (Striking RebootAndDelete)) →
    kill ≡ asked (bits / 8 % 2 == 1) (only (Striking KillInstantly)) →
    clog ≡ asked (bits / 16 % 2 == 1) (only Clogging) → ab ≡ in_either mild reboot →
    abc ≡ in_either ab delete → abcd ≡ in_either abc kill → all ≡ in_either abcd clog →
    bits ≡ bits_of all
gathered_are bits mild reboot delete kill clog ab abc abcd all few a b c d e f g h i =
    sym (gathered_bits bits few)
    ∙ ap bits_of
    (sym (i ∙ ap₂ in_either (h ∙ ap₂ in_either (g ∙ ap₂ in_either (f ∙ ap₂ in_either a b) c) d) e))

weight : (is : Bool) (n : ℕ) → (if is then n else 0) ≤ n
weight true n = omega arith
weight false n = omega arith

-- no set has 32 bits or more
pub few_bits : (kinds : Members) → bits_of kinds < 32
few_bits kinds =
    let a = weight kinds.reboot_process 1 in
    let b = weight kinds.reboot 2 in
    let c = weight kinds.reboot_and_delete 4 in
    let d = weight kinds.kill_instantly 8 in
    let e = weight kinds.clog 16 in
    omega (arith, a, b, c, d, e)

pub no_such_bits : (bits : ℕ) → 32 ≤ bits → (kinds : Members) → bits ≢ bits_of kinds
no_such_bits bits many kinds same = let few = few_bits kinds in let none : ⊥ = omega (arith, few, many, same) in none

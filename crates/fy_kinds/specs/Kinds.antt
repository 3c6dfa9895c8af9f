-- the kinds of kill in their order, and sets of them with clogging
use Rattle.std.specs.Prelude.{ℕ, ◌+◌, Bool, true, false, ◌&&◌, ◌||◌, not, ◌==◌, nat_eq, List, [], ◌∷◌, map, codes, Option, option_map, if◌then◌else◌}
use Rattle.std.specs.Cmp.Lexicographic.{pointwise}
use Rattle.std.specs.Int.{bit_at}
use Rattle.std.specs.List.{find, list_all, list_any}
use Rattle.fy_kinds.specs.declared.kind.Kind.{Kind}
use Rattle.fy_kinds.specs.declared.kind.Kind.TheVariants.{RebootProcess, Reboot, RebootAndDelete, KillInstantly}
use Rattle.fy_kinds.specs.Members.{Members}

-- the place of a kind in their order, from the mildest
abbrev pub rank : Kind → ℕ
rank RebootProcess = 0
rank Reboot = 1
rank RebootAndDelete = 2
rank KillInstantly = 3

-- every kind, from the mildest
abbrev pub all_kinds : List Kind
all_kinds = RebootProcess ∷ Reboot ∷ RebootAndDelete ∷ KillInstantly ∷ []

-- how kinds are written
abbrev pub kind_text : Kind → List ℕ
kind_text RebootProcess = codes "RebootProcess"
kind_text Reboot = codes "Reboot"
kind_text RebootAndDelete = codes "RebootAndDelete"
kind_text KillInstantly = codes "KillInstantly"

-- the kind that is written so
abbrev pub kind_named : List ℕ → Option Kind
kind_named text = find (λ kind. pointwise nat_eq (kind_text kind) text) all_kinds

-- the kinds that empty the disk
abbrev pub is_destroying : Kind → Bool
is_destroying RebootProcess = false
is_destroying Reboot = false
is_destroying RebootAndDelete = true
is_destroying KillInstantly = true

-- the kind that leaves nobody to come back
abbrev pub destroys_for_good : Kind → Bool
destroys_for_good KillInstantly = true
destroys_for_good _ = false

-- what a grant allows or a protection forbids: a kill of a kind, or clogging
pub data Deed : Type 0 where
  Striking : Kind → Deed
  Clogging : Deed

-- every deed, in the order in which sets are written
abbrev pub deeds : List Deed
deeds =
    Striking RebootProcess ∷ Striking Reboot ∷ Striking RebootAndDelete ∷ Striking KillInstantly
    ∷ Clogging ∷ []

-- how deeds are written
abbrev pub deed_text : Deed → List ℕ
deed_text (Striking kind) = kind_text kind
deed_text Clogging = codes "Clog"

-- the deed that is written so
abbrev pub deed_named : List ℕ → Option Deed
deed_named text = find (λ d. pointwise nat_eq (deed_text d) text) deeds

-- whether a deed is a kill of a kind that passes a test
abbrev pub is_kill_which : (Kind → Bool) → Deed → Bool
is_kill_which test (Striking kind) = test kind
is_kill_which test Clogging = false

-- the place of a deed among them
abbrev pub place : Deed → ℕ
place (Striking kind) = rank kind
place Clogging = 4

-- whether a deed is in a set
abbrev pub has : Members → Deed → Bool
has kinds (Striking RebootProcess) = kinds.reboot_process
has kinds (Striking Reboot) = kinds.reboot
has kinds (Striking RebootAndDelete) = kinds.reboot_and_delete
has kinds (Striking KillInstantly) = kinds.kill_instantly
has kinds Clogging = kinds.clog

-- the set of the deeds that pass a test
abbrev pub those : (Deed → Bool) → Members
those f = record {
  reboot_process = f (Striking RebootProcess);
  reboot = f (Striking Reboot);
  reboot_and_delete = f (Striking RebootAndDelete);
  kill_instantly = f (Striking KillInstantly);
  clog = f Clogging;
}

-- the set of no deed
abbrev pub no_deed : Members
no_deed = those (λ _. false)

-- the set of every deed
abbrev pub every_deed : Members
every_deed = those (λ _. true)

-- the set of one deed
abbrev pub only : Deed → Members
only deed = those (λ d. place d == place deed)

-- the deeds of either set
abbrev pub in_either : Members → Members → Members
in_either a b = those (λ d. has a d || has b d)

-- the deeds of both sets
abbrev pub in_each : Members → Members → Members
in_each a b = those (λ d. has a d && has b d)

-- the deeds of the first set that aren't in the second
abbrev pub in_first_alone : Members → Members → Members
in_first_alone a b = those (λ d. has a d && not (has b d))

-- whether every deed asked for is in the set
abbrev pub has_all : Members → Members → Bool
has_all kinds asked = list_all (λ d. not (has asked d) || has kinds d) deeds

-- whether some deed asked for is in the set
abbrev pub has_some : Members → Members → Bool
has_some kinds asked = list_any (λ d. has asked d && has kinds d) deeds

-- the set of the one deed that is written so
abbrev pub set_named : List ℕ → Option Members
set_named text = option_map only (deed_named text)

-- ---- sets as five bits

-- the bit of a deed
abbrev pub bit_of : Deed → ℕ
bit_of (Striking RebootProcess) = 1
bit_of (Striking Reboot) = 2
bit_of (Striking RebootAndDelete) = 4
bit_of (Striking KillInstantly) = 8
bit_of Clogging = 16

-- every deed with its text and its bit
abbrev pub table : List (List ℕ × ℕ)
table = map (λ d. (deed_text d, bit_of d)) deeds

-- the bits of the deeds of a set that are in a list
abbrev pub bits_among : Members → List Deed → ℕ
bits_among members [] = 0
bits_among members (d ∷ ds) = (if has members d then bit_of d else 0) + bits_among members ds

-- the bits of a set
abbrev pub bits_of : Members → ℕ
bits_of members = bits_among members deeds

-- the set of the deeds whose bit is 1
abbrev pub set_of_bits : ℕ → Members
set_of_bits bits = those (λ d. bit_at bits (place d) == 1)

-- what is written is read back, so no two texts are alike
use Rattle.std.proofs.Common.{◌≡◌, refl, sym, ap, ◌∙◌}
use Rattle.std.specs.Prelude.{Some}
use Rattle.fy_kinds.specs.declared.kind.Kind.{Kind}
use Rattle.fy_kinds.specs.declared.kind.Kind.TheVariants.{RebootProcess, Reboot, RebootAndDelete, KillInstantly}
use Rattle.fy_kinds.specs.Kinds.{Deed, Striking, Clogging, kind_text, kind_named, deed_text, deed_named}

pub kind_read_back : (kind : Kind) → kind_named (kind_text kind) ≡ Some kind
kind_read_back RebootProcess = refl
kind_read_back Reboot = refl
kind_read_back RebootAndDelete = refl
kind_read_back KillInstantly = refl

pub deed_read_back : (d : Deed) → deed_named (deed_text d) ≡ Some d
deed_read_back (Striking RebootProcess) = refl
deed_read_back (Striking Reboot) = refl
deed_read_back (Striking RebootAndDelete) = refl
deed_read_back (Striking KillInstantly) = refl
deed_read_back Clogging = refl

pub kinds_differ : (k l : Kind) → kind_text k ≡ kind_text l → k ≡ l
kinds_differ k l same =
    let both : Some k ≡ Some l = sym (kind_read_back k) ∙ ap kind_named same ∙ kind_read_back l in cc

pub deeds_differ : (d e : Deed) → deed_text d ≡ deed_text e → d ≡ e
deeds_differ d e same =
    let both : Some d ≡ Some e = sym (deed_read_back d) ∙ ap deed_named same ∙ deed_read_back e in cc

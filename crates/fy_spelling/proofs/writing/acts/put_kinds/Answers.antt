use Rattle.std.proofs.Common.{◌≡◌, ◌∙◌, refl, sym, ap, subst, arith, add-one, append_assoc, ℕ, ◌<◌, ◌+◌, Bool, true, false, List, [], ◌∷◌, ◌++◌, codes, drop, drop-cons, get_or, map, filter, length}
use Rattle.std.proofs.lemmas.List.{drop_all}
use Rattle.serde_json.specs.Written.{comma_if}
use Rattle.fy_kinds.specs.Kinds.{Deed, Striking, Clogging, all_kinds, has, kind_text}
use Rattle.fy_kinds.specs.Members.{Members}
use Rattle.fy_kinds.specs.declared.kind.Kind.{Kind}
use Rattle.fy_kinds.specs.declared.kind.Kind.TheVariants.{RebootProcess}
use Rattle.fy_spelling.specs.Pieces.{deeds_text}
use Rattle.fy_spelling.proofs.Joined.{IsShort, short_of, refused, stands_longer, stands_still}
use Rattle.fy_spelling.proofs.writing.acts.put_kinds.Goals as goal
use Rattle.fy_spelling.proofs.writing.acts.put_kinds.Goals.{then-has+in_ok-put_listed, else-has}

-- the members from a kind on
abbrev rest : Members → List Kind → List Deed
rest kinds left = filter (has kinds) (map Striking left ++ Clogging ∷ [])

abbrev word_text : Bool → List ℕ → List ℕ
word_text later word = comma_if later ++ (codes "\"" ++ (word ++ codes "\""))

-- a word and what stands behind it
behind : (o comma word more : List ℕ)
    → (o ++ (comma ++ (codes "\"" ++ (word ++ codes "\"")))) ++ more ≡ o ++ (comma ++ (codes "\"" ++ (word ++ (codes "\"" ++ more))))
behind o comma word more = simp append_assoc

-- a member is written
listed : (kinds : Members) (kind : Kind) (left : List Kind) (later : Bool) (old out new : List ℕ) → has kinds (Striking kind) ≡ true
    → new ≡ out ++ word_text later (kind_text kind) → out ++ deeds_text later (rest kinds (kind ∷ left)) ≡ old → new ++ deeds_text true (rest kinds left) ≡ old
listed kinds kind left later old out new is written before =
    ap (λ x. x ++ deeds_text true (rest kinds left)) written ∙ behind out (comma_if later) (kind_text kind) (deeds_text true (rest kinds left)) ∙ rw is at before

-- no member, nothing is written
left_out : (kinds : Members) (kind : Kind) (left : List Kind) (later : Bool) (old out : List ℕ) → has kinds (Striking kind) ≡ false
    → out ++ deeds_text later (rest kinds (kind ∷ left)) ≡ old → out ++ deeds_text later (rest kinds left) ≡ old
left_out kinds kind left later old out is before = rw is at before

-- clogging is written, behind which nothing is
last : (kinds : Members) (later : Bool) (old out : List ℕ) → has kinds Clogging ≡ true
    → out ++ deeds_text later (rest kinds []) ≡ old → (out ++ word_text later (codes "Clog")) ++ [] ≡ old
last kinds later old out is before =
    behind out (comma_if later) (codes "Clog") [] ∙ rw is at before

-- the first kind of what is left
first : (kinds : List Kind) (i : ℕ) → i < length kinds → drop i kinds ≡ get_or kinds i RebootProcess ∷ drop (i + 1) kinds
first kinds i below = rw (add-one i) (drop-cons kinds i RebootProcess below)

pub loop-kind-preserved : goal.loop-kind-preserved
loop-kind-preserved c =
    let i = c.loop-kind.kind-index in
    let kinds = c.args.kinds in
    let kind = get_or all_kinds i RebootProcess in
    let left = drop (i + 1) all_kinds in
    let out = c.loop-kind.out in
    let old = c.args.out.now.items ++ deeds_text false (rest kinds all_kinds) in
    let before = rw (first all_kinds i c.loop-kind-test.true) at c.loop-kind.invariant.1 in
    let grown = c.loop-kind.invariant.2 in
    elim c.if-has.branch [
      | then-has+in_ok-put_listed w ↦
          let put = w.in_ok-put_listed.ensures in
          rw (w.out-is, w.later-is) (
            stands_longer _ _ _ _ c.loop-kind.invariant.0 put.0,
            listed kinds kind left c.loop-kind.later old out.items w.put_listed.new.out.items
                (sym c.has.ensures ∙ w.if-has.true)
                (put.0 ∙ ap (λ word. out.items ++ word_text c.loop-kind.later word) w.text.ensures) before,
            omega (arith, grown, put.1),
          )
      | else-has w ↦
          rw (w.out-is, w.later-is) (
            c.loop-kind.invariant.0,
            left_out kinds kind left c.loop-kind.later old out.items (sym c.has.ensures ∙ w.if-has.false) before,
            grown,
          )
    ]

pub returns-in_err-put_listed : goal.returns-in_err-put_listed
returns-in_err-put_listed c =
    let i = c.loop-kind.kind-index in
    let kinds = c.args.kinds in
    let kind = get_or all_kinds i RebootProcess in
    let left = drop (i + 1) all_kinds in
    let out = c.loop-kind.out in
    let fn = c.args.out.now in
    let later = c.loop-kind.later in
    let word = word_text later (kind_text kind) in
    let before = rw (first all_kinds i c.loop-kind-test.true) at c.loop-kind.invariant.1 in
    let whole =
    listed kinds kind left later (fn.items ++ deeds_text false (rest kinds all_kinds)) out.items
    (out.items ++ word) (sym c.has.ensures ∙ c.if-has.true) refl before in
    let short : IsShort out word =
    subst (λ w. IsShort out (word_text later w)) c.text.ensures c.in_err-put_listed.ensures.1 in
    refused _ c.from_residual.result _ fn _ c.from_residual.ensures.1
    (stands_still _ _ _ c.loop-kind.invariant.0 c.in_err-put_listed.ensures.0)
    (short_of fn out (deeds_text false (rest kinds all_kinds)) word (deeds_text true (rest kinds left))
    c.loop-kind.invariant.2 whole short)

pub returns-in_err-put_listed-2 : goal.returns-in_err-put_listed-2
returns-in_err-put_listed-2 c =
    let kinds = c.args.kinds in
    let out = c.loop-kind.out in
    let fn = c.args.out.now in
    let later = c.loop-kind.later in
    let word = word_text later (codes "Clog") in
    let before = rw (drop_all c.loop-kind.kind-index all_kinds c.loop-kind-test.false) at c.loop-kind.invariant.1 in
    let whole = last kinds later (fn.items ++ deeds_text false (rest kinds all_kinds)) out.items
    (sym c.has_clog.ensures ∙ c.if-has_clog.true) before in
    refused _ c.from_residual-in_err-put_listed-2.result _ fn _ c.from_residual-in_err-put_listed-2.ensures.1
    (stands_still _ _ _ c.loop-kind.invariant.0 c.in_err-put_listed-2.ensures.0)
    (short_of fn out (deeds_text false (rest kinds all_kinds)) word [] c.loop-kind.invariant.2 whole
    c.in_err-put_listed-2.ensures.1)

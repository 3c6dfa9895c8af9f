-- work at a desk adds up
use Rattle.std.proofs.Common.{◌≡◌, ◌≢◌, ℕ, ◌==◌, Bool, true, false, List, [], ◌∷◌, ◌++◌, refl, sym, ap, ap₂, ◌∙◌, subst, arith, append-nil, append_assoc, cond}
use Rattle.std.proofs.lemmas.Bool.Decides.{nat_tests}
use Rattle.std.proofs.lemmas.List.Elements.{filter-append}
use Rattle.fy_acts.specs.declared.entry.Entry.{Entry}
use Rattle.fy_actors.specs.Desk.{entries_by, OnlyBy}
use Rattle.fy_actors.specs.Work.{NoneIsWork, WorkAddsUp, ReceiptsStayWhole, OthersAddNothing}

pub none_is_work : NoneIsWork
none_is_work desk = record {
  setup = refl;
  actor = refl;
  new = [];
  journal = sym (append-nil desk.journal);
  own = tt;
  receipts = sym (append-nil desk.receipts);
}

own_append : (a : ℕ) (xs ys : List Entry) → OnlyBy a xs → OnlyBy a ys → OnlyBy a (xs ++ ys)
own_append a [] ys f s = s
own_append a (x ∷ xs) ys f s = (f.0, own_append a xs ys f.1 s)

pub work_adds_up : WorkAddsUp
work_adds_up first then last one two = record {
  setup = two.setup ∙ one.setup;
  actor = two.actor ∙ one.actor;
  new = one.new ++ two.new;
  journal =
      two.journal ∙ ap (λ es. es ++ two.new) one.journal
      ∙ append_assoc first.journal one.new two.new;
  own = own_append first.actor one.new two.new one.own (subst (λ a. OnlyBy a two.new) one.actor two.own);
  receipts =
      two.receipts ∙ ap (λ es. es ++ two.new) one.receipts
      ∙ append_assoc first.receipts one.new two.new;
}

passes : (b : Bool) (x : Entry) (xs : List Entry) → b ≡ true → cond b (x ∷ xs) xs ≡ x ∷ xs
passes true x xs e = refl
passes false x xs e = absurd (let none : ⊥ = cc in none)

fails : (b : Bool) (x : Entry) (xs : List Entry) → b ≡ false → cond b (x ∷ xs) xs ≡ xs
fails false x xs e = refl
fails true x xs e = absurd (let none : ⊥ = cc in none)

same : (m n : ℕ) → m ≡ n → (m == n) ≡ true
same m n e = grind (arith, nat_tests)

differ : (m n a : ℕ) → m ≡ n → a ≢ n → (m == a) ≡ false
differ m n a e d = grind (arith, nat_tests)

all_own : (a : ℕ) (es : List Entry) → OnlyBy a es → entries_by a es ≡ es
all_own a [] own = refl
all_own a (e ∷ es) own =
    passes _ e _ (same e.by a own.0) ∙ ap (λ rest. e ∷ rest) (all_own a es own.1)

none_own : (a b : ℕ) (es : List Entry) → OnlyBy b es → a ≢ b → entries_by a es ≡ []
none_own a b [] own d = refl
none_own a b (e ∷ es) own d =
    fails _ e _ (differ e.by b a own.0 d) ∙ none_own a b es own.1 d

pub receipts_stay_whole : ReceiptsStayWhole
receipts_stay_whole before after work whole =
    work.receipts
    ∙ ap₂ (λ xs ys. xs ++ ys) whole (sym (all_own before.actor work.new work.own))
    ∙ sym (filter-append (λ (e : Entry). e.by == before.actor) before.journal work.new)
    ∙ ap₂ (λ a es. entries_by a es) (sym work.actor) (sym work.journal)

pub others_add_nothing : OthersAddNothing
others_add_nothing before after other work apart =
    ap (entries_by other) work.journal
    ∙ filter-append (λ (e : Entry). e.by == other) before.journal work.new
    ∙ ap (λ es. entries_by other before.journal ++ es) (none_own other before.actor work.new work.own apart)
    ∙ append-nil (entries_by other before.journal)

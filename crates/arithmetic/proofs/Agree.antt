-- From any two outcomes that one promise allows, they agree. Every promise of the project is an equation by a
-- definition: of the outcome itself (`agree`), or of what it says in 01's values and numbers (`agree-read`);
-- docs/PROMISES.md lists the instances. Assumes nothing.
use mathlib.Core.Path.{◌≡◌, sym, ap, ◌∙◌}

pub agree : {A : Type 0} {one other promised : A} → one ≡ promised → other ≡ promised → one ≡ other
agree p q = p ∙ sym q

-- where what is read can be turned back
pub agree-read : {A B : Type 0} (read : A → B) (back : B → A) → ((a : A) → back (read a) ≡ a) → {one other : A} {promised : B} →
    read one ≡ promised → read other ≡ promised → one ≡ other
agree-read read back there {one} {other} p q = sym (there one) ∙ ap back (agree p q) ∙ there other

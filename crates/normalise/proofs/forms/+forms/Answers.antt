use Rattle.std.proofs.Common.{ℕ, suc, ◌<◌, ◌+◌, ◌-◌, List, length, refl, rules, sym, ap, subst, ◌∙◌, arith}
use Rattle.diagram_terms.specs.Tree.{Tree, sings}
use Rattle.hashcons.specs.Contents.{diagram_at}
use Rattle.hashcons.specs.NormalTrees.{TreeLeg}
use Rattle.hashcons.specs.NoteTables.{key_of}
use Rattle.hashcons.proofs.Growth.{Grows-trans}
use Rattle.normalise.specs.FormTrees.{reg_normal}
use Rattle.normalise.specs.StoreForms.{AreForms, IsLeftOf, IsLevelOf, IsLegWith, legs_of}
use Rattle.normalise.proofs.FormsInStore.{key-grows, key_with-grows, key_of_with, key_before}
use Rattle.normalise.proofs.FormSteps.{dim_after, len_after, forms_after, left_after, form_after, makes_leg_before, with_form, reg_dim, sing_dim, sources_more, arrows_more, ways_len, levels_told}
use Rattle.normalise.proofs.LeftSteps.{forms-grow, left-grows, left-more}
use Rattle.normalise.proofs.forms.+forms.Goals as goal

-- ---- a form

pub note_form-note_with_factors-requires-clause-key : goal.note_form-note_with_factors-requires-clause-key
note_form-note_with_factors-requires-clause-key t c =
    key-grows c.args.store.now c.form_anew.new.store (key_of c.args.key.now) c.in_ok-source.ensures.grows c.requires.key

pub note_form-note_with_factors-requires-clause-form : goal.note_form-note_with_factors-requires-clause-form
note_form-note_with_factors-requires-clause-form t c =
    let m = c.in_ok-source.ensures in
    form_after c.args.store.now c.form_anew.new.store (key_of c.args.key.now) m.grows c.requires.key (c.in_ok-source.source, c.in_ok-source.arrow) m.leg

pub form_anew-kept_levels-requires : goal.form_anew-kept_levels-requires
form_anew-kept_levels-requires t c =
    let old = c.args.store.now in
    let mid = c.regular_forms.new.store in
    let key = key_of c.args.key.now in
    let m = c.in_ok-forms.ensures in
    let g = m.grows in (
      search rules,
      (
        key-grows old mid key g c.requires.key,
        (
          dim_after old mid key g c.requires.key c.args.dim c.requires.dim,
          (
            omega arith,
            (forms_after old mid key g c.requires.key c.in_ok-forms.forms m.forms, g.store c.requires.store),
          ),
        ),
      ),
    )

pub form_anew-assembled-requires-clause-key : goal.form_anew-assembled-requires-clause-key
form_anew-assembled-requires-clause-key t c =
    let old = c.args.store.now in
    let mid = c.regular_forms.new.store in
    let new = c.kept_levels.new.store in
    key-grows old new (key_of c.args.key.now) (Grows-trans old mid new c.in_ok-forms.ensures.grows c.in_ok-left.ensures.grows) c.requires.key

pub form_anew-assembled-requires-clause-forms : goal.form_anew-assembled-requires-clause-forms
form_anew-assembled-requires-clause-forms t c =
    let old = c.args.store.now in
    let mid = c.regular_forms.new.store in
    let new = c.kept_levels.new.store in
    let key = key_of c.args.key.now in
    let forms = c.in_ok-forms.forms in
    let a = c.in_ok-forms.ensures in
    let b = c.in_ok-left.ensures in
    let g = Grows-trans old mid new a.grows b.grows in
    let f = forms_after old new key g c.requires.key forms (forms-grow mid new _ _ _ forms b.grows a.forms) in
    subst (λ (n : ℕ). AreForms new (diagram_at new key.target) (legs_of new key.legs) (suc n) forms)
    (sym (len_after old new key g c.requires.key c.length-last.result c.length-last.ensures.length)) f

pub form_anew-assembled-requires-clause-left : goal.form_anew-assembled-requires-clause-left
form_anew-assembled-requires-clause-left t c =
    let old = c.args.store.now in
    let mid = c.regular_forms.new.store in
    let new = c.kept_levels.new.store in
    let key = key_of c.args.key.now in
    let left = c.in_ok-left.left in
    let a = c.in_ok-forms.ensures in
    let b = c.in_ok-left.ensures in
    let f = left_after mid new key b.grows (key-grows old mid key a.grows c.requires.key) left b.left in
    subst (λ (n : ℕ). IsLeftOf new (diagram_at new key.target) (legs_of new key.legs) n left)
    (sym (len_after old new key (Grows-trans old mid new a.grows b.grows) c.requires.key c.length-last.result c.length-last.ensures.length)) f

pub form_anew-returns : goal.form_anew-returns
form_anew-returns t c =
    let old = c.args.store.now in
    let mid = c.regular_forms.new.store in
    let new = c.kept_levels.new.store in
    makes_leg_before old new (key_of c.args.key.now) (Grows-trans old mid new c.in_ok-forms.ensures.grows c.in_ok-left.ensures.grows) c.requires.key
    c.assembled.new.store c.assembled.result c.assembled.ensures

-- ---- regular slices

pub regular_form-note_form-requires : goal.regular_form-note_form-requires
regular_form-note_form-requires t c =
    let old = c.args.store.now in
    let key = key_of c.args.key.now in
    let slice = key_of c.in_ok-slice.slice in
    let h = c.in_ok-slice.ensures in (
      search rules,
      (key_of_with old _ _ slice h, reg_dim old key c.requires.key c.args.dim c.requires.dim c.requires.above c.args.j c.requires.within (diagram_at old slice.target) h.tree),
    )

pub regular_form-returns : goal.regular_form-returns
regular_form-returns t c =
    let old = c.args.store.now in
    let new = c.note_form.new.store in
    let slice = key_of c.in_ok-slice.slice in
    let g = c.in_ok-note_form.ensures.grows in
    record {
      grows = g;
      leg = with_form new _ _ slice (key_with-grows old new _ _ slice g c.in_ok-slice.ensures) c.known_form.result c.known_form.ensures.form;
    }

pub regular_forms-regular_form-requires-in-loop-k : goal.regular_forms-regular_form-requires-in-loop-k
regular_forms-regular_form-requires-in-loop-k t c =
    let old = c.args.store.now in
    let now = c.loop-k.store in
    let key = key_of c.args.key.now in
    let g = c.loop-k.invariant.grows in
    let n = len_after old now key g c.requires.key (length (sings (diagram_at old key.target))) refl in
    let m = len_after old c.regular_form.new.store key c.in_ok-source.ensures.grows c.requires.key (length (sings (diagram_at old key.target))) refl in (
      search rules,
      (
        key-grows old now key g c.requires.key,
        (
          dim_after old now key g c.requires.key c.args.dim c.requires.dim,
          (
            omega arith,
            (omega arith, g.store c.requires.store),
          ),
        ),
      ),
    )

pub regular_forms-loop-k-preserved : goal.regular_forms-loop-k-preserved
regular_forms-loop-k-preserved t c =
    let old = c.args.store.now in
    let now = c.loop-k.store in
    let new = c.regular_form-in-loop-k.new.store in
    let key = key_of c.args.key.now in
    let inv = c.loop-k.invariant in
    let m = c.in_ok-source-2.ensures in
    let x : ℕ × ℕ = (c.in_ok-source-2.source, c.in_ok-source-2.arrow) in
    let j = c.loop-k.k + 1 in
    let one = key_before old now key inv.grows c.requires.key (λ (t : Tree) (gs : List TreeLeg). IsLegWith new (reg_normal t gs j) x) m.leg in
    record {
      grows = Grows-trans old now new inv.grows m.grows;
      sources = rw c.in_ok-push-3.ensures.ok (sources_more now new _ _ j x m.grows one c.loop-k.sources.items inv.sources);
      arrows = rw c.in_ok-push-4.ensures.ok (arrows_more now new _ _ j x m.grows one c.loop-k.arrows.items inv.arrows);
    }

-- ---- singular slices

pub kept_levels-singular_form-requires : goal.kept_levels-singular_form-requires
kept_levels-singular_form-requires t c =
    let old = c.args.store.now in
    let now = c.loop-k.store in
    let key = key_of c.args.key.now in
    let g = c.loop-k.invariant.grows in
    let n = len_after old now key g c.requires.key (length (sings (diagram_at old key.target))) refl in (
      search rules,
      (
        key-grows old now key g c.requires.key,
        (
          dim_after old now key g c.requires.key c.args.dim c.requires.dim,
          (
            omega arith,
            (
              omega arith,
              (
                omega arith,
                (forms_after old now key g c.requires.key c.args.forms.now (forms-grow old now _ _ _ c.args.forms.now g c.requires.forms), g.store c.requires.store),
              ),
            ),
          ),
        ),
      ),
    )

pub kept_levels-loop-k-preserved : goal.kept_levels-loop-k-preserved
kept_levels-loop-k-preserved t c =
    let old = c.args.store.now in
    let now = c.loop-k.store in
    let new = c.singular_form.new.store in
    let key = key_of c.args.key.now in
    let inv = c.loop-k.invariant in
    let m = c.in_ok-here.ensures in
    let k = c.loop-k.k in
    let here = c.in_ok-here.here in
    let forms = c.args.forms.now in
    let g = Grows-trans old now new inv.grows m.grows in
    let v = key_before old now key inv.grows c.requires.key (λ (t : Tree) (gs : List TreeLeg). IsLevelOf new t gs k here) m.level in
    let f = forms-grow old new _ _ _ forms g c.requires.forms in
    let e = c.form_at-reg.ensures in
    let r = c.form_at-reg.result.0 in
    let p = ap (λ (x : ℕ × ℕ). x.0) e in
    record {
      grows = g;
      left = left-more new _ _ k r here c.loop-k.left c.add.new.self (left-grows now new _ _ k c.loop-k.left m.grows inv.left) v
          (subst (λ (i : ℕ). i < length new.diagrams) (sym p) (f.sources.of_store k (omega arith))) (ap (diagram_at new) p ∙ f.sources.are k (omega arith)) c.in_ok-add.ensures;
    }

pub singular_form-note_form-requires : goal.singular_form-note_form-requires
singular_form-note_form-requires t c =
    let old = c.args.store.now in
    let mid = c.singular_key.new.store in
    let key = key_of c.args.key.now in
    let slice = key_of c.in_ok-slice.slice in
    let h = c.in_ok-slice.ensures.key in (
      search rules,
      (key_of_with mid _ _ slice h, sing_dim old key c.requires.key c.args.dim c.requires.dim c.requires.above c.args.k c.requires.within (diagram_at mid slice.target) h.tree),
    )

pub singular_form-overflow_sub-last : goal.singular_form-overflow_sub-last
singular_form-overflow_sub-last t c =
    let n = ways_len _ _ c.args.k c.singular_key.new.store (key_of c.in_ok-slice.slice) c.in_ok-slice.ensures.key in
    omega arith

pub singular_form-overflow_sub-last-2 : goal.singular_form-overflow_sub-last-2
singular_form-overflow_sub-last-2 t c =
    let n = ways_len _ _ c.args.k c.singular_key.new.store (key_of c.in_ok-slice.slice) c.in_ok-slice.ensures.key in
    omega arith

pub singular_form-level_of-requires-clause-key : goal.singular_form-level_of-requires-clause-key
singular_form-level_of-requires-clause-key t c =
    let mid = c.singular_key.new.store in
    let slice = key_of c.in_ok-slice.slice in
    key-grows mid c.note_form.new.store slice c.in_ok-note_form.ensures.grows (key_of_with mid _ _ slice c.in_ok-slice.ensures.key)

pub singular_form-level_of-requires-clause-last : goal.singular_form-level_of-requires-clause-last
singular_form-level_of-requires-clause-last t c =
    let n = ways_len _ _ c.args.k c.singular_key.new.store (key_of c.in_ok-slice.slice) c.in_ok-slice.ensures.key in
    omega arith

pub singular_form-level_of-requires-clause-len : goal.singular_form-level_of-requires-clause-len
singular_form-level_of-requires-clause-len t c =
    let n = ways_len _ _ c.args.k c.singular_key.new.store (key_of c.in_ok-slice.slice) c.in_ok-slice.ensures.key in
    omega arith

pub singular_form-returns : goal.singular_form-returns
singular_form-returns t c =
    let old = c.args.store.now in
    let mid = c.singular_key.new.store in
    let noted = c.note_form.new.store in
    let new = c.level_of.new.store in
    let key = key_of c.args.key.now in
    let slice = key_of c.in_ok-slice.slice in
    let a = c.in_ok-slice.ensures in
    let b = c.in_ok-note_form.ensures in
    let h = key_with-grows mid noted _ _ slice b.grows a.key in
    let n = ways_len _ _ c.args.k mid slice a.key in
    record {
      grows = Grows-trans old noted new (Grows-trans old mid noted a.grows b.grows) c.level_of.ensures.grows;
      level = levels_told (diagram_at old key.target) (legs_of old key.legs) c.args.k noted slice h new (c.len-last.result - 1 - 1) (c.len-last.result - 1) (omega arith) (omega arith)
          c.level_of.result c.level_of.ensures.level;
    }

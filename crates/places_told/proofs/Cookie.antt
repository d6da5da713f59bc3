-- The directory of the level that its cookie names is refused exactly by what is wrong in it. Assumes nothing.
use mathlib.Core.Path.{◌≡◌, refl, sym, ap, subst, ◌∙◌}
use mathlib.Core.Logic.{inl, inr}
use mathlib.Core.List.{List}
use Prim.Native.Nat.{ℕ, ◌+◌}
use borrow.Author.Tests.{leb-true, eqb-true, eqb-false, le-leb, eq-eqb, ne_eqb}
use lib.ListN.{length}
use lib.Dec.{leb, eqb}
use Rattle.le.specs.Le.{le_at}
use Rattle.reply.specs.Reply.{Carried, refused, in_header}
use Rattle.reply.proofs.ReplyLaws.{failed}
use Rattle.directory.specs.Directory.{cookie_of, directory_at, directory_by_cookie}
use Rattle.directory.specs.declared.Kind.{Kind}
use Rattle.places_told.specs.Where.{HeaderThere, CookieFault, cut, no_cookie, of_level}
use Rattle.places_told.proofs.Refused.{stopped, branched, denied_le, le_denied}
use Rattle.places_told.proofs.Checks.{directory_only, directory_all}

module _ (kind : Kind) (limit : ℕ) (s : List ℕ) (o n : ℕ) where
  pub cookie_only : (c : Carried) → directory_by_cookie kind limit s o ≡ refused n c → CookieFault kind limit s o n c
  unfolding directory_by_cookie
  cookie_only c e =
      stopped (leb (o + 16) (length s)) 1 _ _ e (λ b m k. subst (CookieFault kind limit s o n) k (cut (denied_le _ _ b) (sym m)))
      (λ there e. branched (eqb (le_at 4 s (o + 0)) kind.one) _ _ e (λ b e. of_level 1 (inl refl) (leb-true _ _ there) (eqb-true _ _ b) (directory_only kind limit 1 s o n c (inl refl) e))
      (λ one e. branched (eqb (le_at 4 s (o + 0)) kind.two) _ _ e (λ b e. of_level 2 (inr refl) (leb-true _ _ there) (eqb-true _ _ b) (directory_only kind limit 2 s o n c (inr refl) e))
      (λ two e. subst (CookieFault kind limit s o n) (cc e) (no_cookie (leb-true _ _ there) (eqb-false _ _ one) (eqb-false _ _ two) (cc e)))))

  -- level 0: fewer bytes than a header has, or neither cookie
  pub cut_all : (HeaderThere s o → ⊥) → n ≡ 1 → directory_by_cookie kind limit s o ≡ refused n (in_header 0 o)
  unfolding directory_by_cookie
  cut_all b m = failed _ _ _ _ (le_denied _ _ b) ∙ ap (λ (n : ℕ). refused n (in_header 0 o)) (sym m)

  pub neither_all : HeaderThere s o → (le_at 4 s (o + 0) ≡ kind.one → ⊥) → (le_at 4 s (o + 0) ≡ kind.two → ⊥) → n ≡ 2 → directory_by_cookie kind limit s o ≡ refused n (in_header 0 o)
  unfolding directory_by_cookie
  neither_all there one two m = simp (le-leb _ _ there, ne_eqb _ _ one, ne_eqb _ _ two) (ap (λ (n : ℕ). refused n (in_header 0 o)) (sym m))

  pub cookie_all : (c : Carried) → (kind.one ≡ kind.two → ⊥) → CookieFault kind limit s o n c → directory_by_cookie kind limit s o ≡ refused n c
  unfolding directory_by_cookie
  cookie_all c apart (cut b m) = cut_all b m
  cookie_all c apart (no_cookie there one two m) = neither_all there one two m
  cookie_all c apart (of_level level (inl l) there due f) =
      let q : le_at 4 s (o + 0) ≡ kind.one = due ∙ ap (cookie_of kind) l in
      simp (le-leb _ _ there, eq-eqb _ _ q) (ap (λ (l : ℕ). directory_at kind limit l s o) (sym l) ∙ directory_all kind limit level s o n c (inl l) f)
  cookie_all c apart (of_level level (inr l) there due f) =
      let q : le_at 4 s (o + 0) ≡ kind.two = due ∙ ap (cookie_of kind) l in
      simp (le-leb _ _ there, ne_eqb (le_at 4 s (o + 0)) kind.one (λ p. apart (sym p ∙ q)), eq-eqb _ _ q) (ap (λ (l : ℕ). directory_at kind limit l s o) (sym l) ∙ directory_all kind limit level s o n c (inr l) f)

-- What is told of a place is of the refusal that carries it. Assumes nothing.
use mathlib.Core.Path.{◌≡◌, refl, sym, ap, subst, ◌∙◌}
use mathlib.Core.Logic.{◌⊎◌, inl, inr}
use mathlib.Core.List.{List}
use mathlib.Core.Bool.{true}
use Prim.Native.Nat.{ℕ, ◌<◌, ◌≤◌}
use native.Mathlib.Omega.{arith}
use borrow.Author.Tests.{le-leb}
use lib.ListN.{length}
use Rattle.reply.specs.Reply.{Reply, Carried, given, refused, alone}
use Rattle.reply.proofs.ReplyLaws.{passed}
use Rattle.window.specs.Length.{length_allowed}
use Rattle.window.specs.Window.{four_gib}
use Rattle.window.proofs.Length.{allowed_fact}
use Rattle.directory.specs.Directory.{psp_kind, directory_at}
use Rattle.directory.specs.Good.{GoodDirectory}
use Rattle.directory.specs.declared.Directory.{Directory}
use Rattle.directory.proofs.Accept.{acceptance, there_to}
use Rattle.entries.specs.Entry.{entry_in}
use Rattle.entries.specs.Good.{Leads}
use Rattle.entries.specs.Part.{part_of, part_in}
use Rattle.efs.specs.Rules.{rules_of}
use Rattle.efs.specs.declared.Rules.{Rules}
use Rattle.efs.proofs.Accept.{pointer_acceptance}
use Rattle.entries.specs.declared.Part.{Part}
use Rattle.flash.specs.Flash.{flash_directory, flash_part}
use Rattle.place.specs.Place.{check_at, part_at}
use Rattle.place.proofs.View.{place_acceptance}
use Rattle.version_words.specs.Versions.{version_in}
use Rattle.build.specs.declared.Fields.{Fields}
use Rattle.build.specs.Write.{extend_of}
use Rattle.wrong.specs.Wrong.{at_level, wrong_of, wrong_in, wrong_at}
use Rattle.places_told.specs.Where.{CheckFault, in_its_header, in_its_entry, CookieFault, cut, no_cookie, of_level}
use Rattle.places_told.specs.Told.{LedFault, in_lead, in_two, FlashFault, nowhere, in_one, below, WalkFault, of_level_one, of_a_lead, PlaceFault, nowhere_told, by_cookie, Counted}
use Rattle.places_told.specs.Wrong.{Answered, Answers, ChecksAnswered, CallsAnswered, PlacesAnswered}
use Rattle.places_told.proofs.Refused.{then_stopped, met_stopped}
use Rattle.places_told.proofs.Alone.{entry_alone, version_alone}
use Rattle.places_told.proofs.Checks.{directory_only, directory_all}
use Rattle.places_told.proofs.Cookie.{cookie_only, cut_all, neither_all}
use Rattle.places_told.proofs.Parts.{here, lead_part, part_all}
use Rattle.places_told.proofs.Flash.{good_of}
use Rattle.places_told.proofs.Told.{calls_told, extend_told}

module _ (r : Rules) (s : List ℕ) (allowed : length_allowed s ≡ true) where
  -- of a place within the image, by the directory there
  told_at : (level o i : ℕ) → level ≤ 2 → o ≤ length s → wrong_at r s o level i ≡ wrong_in r s i (at_level r level s o)
  unfolding wrong_at
  told_at level o i l h = passed _ _ _ _ (le-leb level 2 l) ∙ passed _ _ _ _ allowed ∙ passed _ _ _ _ (le-leb o (length s) h)

  told_by : {x : Reply Directory} (level o i : ℕ) → (level ≡ 1) ⊎ (level ≡ 2) → o ≤ length s → directory_at r.kind r.limit level s o ≡ x → wrong_at r s o level i ≡ wrong_in r s i x
  told_by level o i t h e = told_at level o i (there_to level t) h ∙ ap (wrong_in r s i) (by t ∙ e)
    where
      by : (level ≡ 1) ⊎ (level ≡ 2) → at_level r level s o ≡ directory_at r.kind r.limit level s o
      by (inl e) = rw e
      by (inr e) = rw e

  alone_told : (n : ℕ) {c : Carried} → c ≡ alone → Answered r s n c
  alone_told n e = subst (Answered r s n) (sym e) tt

  check_told : {n : ℕ} {c : Carried} (level o : ℕ) → (level ≡ 1) ⊎ (level ≡ 2) → o ≤ length s → CheckFault r.kind r.limit level s o n c → Answered r s n c
  check_told level o t h (in_its_header f) = λ i. told_by level o i t h (directory_all r.kind r.limit level s o _ _ t (in_its_header f))
  check_told level o t h (in_its_entry i head l before f) = told_by level o i t h (directory_all r.kind r.limit level s o _ _ t (in_its_entry i head l before f))

  cookie_told : {n : ℕ} {c : Carried} (o : ℕ) → o ≤ length s → CookieFault r.kind r.limit s o n c → Answered r s n c
  cookie_told {n = n} o h (cut b m) = λ i. told_at 0 o i (omega arith) h ∙ ap (wrong_in r s i) (cut_all r.kind r.limit s o n b m)
  cookie_told {n = n} o h (no_cookie there one two m) = λ i. told_at 0 o i (omega arith) h ∙ ap (wrong_in r s i) (neither_all r.kind r.limit s o n there one two m)
  cookie_told o h (of_level level t there due f) = check_told level o t h f

  place_told : {n : ℕ} {c : Carried} (place : ℕ) → PlaceFault r s place n c → Answered r s n c
  place_told place nowhere_told = tt
  place_told place (by_cookie h f) = cookie_told place h f

  counted_told : {F : Type 0} {n : ℕ} {c : Carried} → (F → Answered r s n c) → Counted n c ⊎ F → Answered r s n c
  counted_told {n = n} f (inl k) = subst (Answered r s n) (sym k.1.1) tt
  counted_told f (inr x) = f x

  -- in the location of an entry of a good directory
  part_told : (d : Directory) (i : ℕ) → GoodDirectory r.kind r.limit s d → Answers r s (part_in r.kind r.window s d i)
  part_told d i g n c e =
      let p = g.present in
      then_stopped (entry_in r.kind s d i) _ e (λ q. alone_told n (entry_alone r.kind s d i n c q))
      (λ x q e'. met_stopped (here d i) (part_of r.kind r.window s d.place.0 x) e'
      (λ w y k. subst (Answered r s n) k (told_by d.level d.place.0 i g.level (omega arith) (acceptance.all r.kind r.limit s d g) ∙ ap (wrong_of r s) (e ∙ sym (ap (refused n) k)))))

  checks_answered : ChecksAnswered r s
  checks_answered = record {
    directory = λ level o t h n c e. check_told level o t h (directory_only r.kind r.limit level s o n c t e);
    cookie = λ o h n c e. cookie_told o h (cookie_only r.kind r.limit s o n c e);
    part = part_told;
  }

  module _ (fits : r.window ≤ four_gib) (other : r.kind.lead ≡ r.kind.value → ⊥) where
    led_told : {n : ℕ} {c : Carried} (d : Directory) (i : ℕ) → flash_directory r 1 s ≡ given d → i < d.total → Leads r.kind s d i → LedFault r s d i n c → Answered r s n c
    led_told {n = n} d i e inside l (in_lead f) =
        part_told d i (good_of r fits s d 1 e).0 n (here d i) (part_all r.kind r.window fits s d i inside n (lead_part r.kind r.window fits s d i (λ v. other (sym l ∙ v)) f))
    led_told d i e inside l (in_two place b h f) = check_told 2 place (inr refl) h f

    flash_told : {n : ℕ} {c : Carried} (level : ℕ) → FlashFault r level s n c → Answered r s n c
    flash_told level nowhere = tt
    flash_told level (in_one p q f) = check_told 1 p.place.0 (inl refl) (pointer_acceptance.only r s p fits q).1 f
    flash_told level (below d i two e w f) = led_told d i e w.inside w.here f

    walk_told : {n : ℕ} {c : Carried} → WalkFault r s n c → Answered r s n c
    walk_told (of_level_one f) = flash_told 1 f
    walk_told (of_a_lead d i e inside l f) = led_told d i e inside l f

    bytes_told : (level i : ℕ) → Answers r s (flash_part r level s i)
    bytes_told level i n c e =
        then_stopped (flash_directory r level s) _ e (λ e. flash_told level ((calls_told r s fits).directory level n c e)) (λ d q e. part_told d i (good_of r fits s d level q).0 n c e)

    bytes_at_told : (place i : ℕ) → Answers r s (part_at r s place i)
    bytes_at_told place i n c e =
        then_stopped (check_at r s place) _ e (λ e. place_told place ((calls_told r s fits).at_place place n c e)) (λ d q e. part_told d i (place_acceptance.only r s place d q).good n c e)

    -- the version of bytes
    version_told : (part : Reply Part) → Answers r s part → Answers r s (version_in s part)
    version_told part told n c e = then_stopped part _ e (told n c) (λ p q e. alone_told n (version_alone _ n c e))

    calls_answered : CallsAnswered r s
    calls_answered =
        let calls = calls_told r s fits in
        record {
          directory = λ level n c e. flash_told level (calls.directory level n c e);
          entry = λ level i n c e. flash_told level (calls.entry level i n c e);
          part = bytes_told;
          repeats = λ level n c e. flash_told level (calls.repeats level n c e);
          lookup = λ level class sub n c e. counted_told (flash_told level) (calls.lookup level class sub n c e);
          image_lookup = λ class sub n c e. counted_told walk_told (calls.image_lookup class sub n c e);
          directories = λ n c e. walk_told (calls.directories n c e);
          at_place = λ place n c e. place_told place (calls.at_place place n c e);
          entry_at_lem = λ place i n c e. place_told place (calls.entry_at_lem place i n c e);
          part_at_lem = bytes_at_told;
          version = λ level i. version_told _ (bytes_told level i);
          version_at = λ place i. version_told _ (bytes_at_told place i);
        }

-- by the rules of an image
extend_answered : (f : Fields) (s : List ℕ) → length_allowed s ≡ true → Answers (rules_of s) s (extend_of f s)
extend_answered f s allowed n c e = by (extend_told f s n c e)
  where
    by : (c ≡ alone) ⊎ CookieFault psp_kind 512 s 0 n c → Answered (rules_of s) s n c
    by (inl k) = alone_told (rules_of s) s allowed n k
    by (inr f) = cookie_told (rules_of s) s allowed 0 (omega arith) f

pub places_answered : PlacesAnswered
places_answered = record {
  checks = checks_answered;
  calls = calls_answered;
  document = λ s allowed.
      let long = (allowed_fact s allowed).to in
      calls_answered (rules_of s) s allowed (omega arith) (λ e. let z : ⊥ = omega arith in z);
  extend = extend_answered;
}

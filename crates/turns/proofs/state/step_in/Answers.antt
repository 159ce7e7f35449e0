use Rattle.std.specs.Prelude.{Err}
use mathlib.Core.Path.{refl, sym, ◌∙◌}
use Rattle.elements.specs.Octets.{asked_at}
use Rattle.message.specs.StepsLaws.{ush-room}
use Rattle.turns.proofs.BusyLaws.{may-to, cnt-right, step-arm, usa-arm, usc-arm, usx-arm}
use Rattle.elements.specs.declared.Kind.TheVariants.{Unb, Unh, Unt, Unz, Ush, Usa, Usc, Usr, Ust, Usb, Usx, Usy, Reserved, Qty, Cnt, Other}
use borrow.Author.Rules.{rules}
use Rattle.turns.proofs.state.step_in.Goals as goal

pub on_ush-requires : goal.on_ush-requires
on_ush-requires c =
    let g = c in record { roomy = g.requires.roomy; headers_bound = (ush-room g.args.m (may-to g.args.m Ush c.in-Ush.is g.requires.m_value.0), g.requires.segments_bound.0, g.requires.segments_bound.1) }

pub usa_group-requires : goal.usa_group-requires
usa_group-requires c =
    let g = c in
    may-to g.args.m Usa c.in-Usa.is g.requires.m_value.0

pub usc_group-requires : goal.usc_group-requires
usc_group-requires c =
    let g = c in
    may-to g.args.m Usc c.in-Usc.is g.requires.m_value.0

pub on_ust-requires : goal.on_ust-requires
on_ust-requires c =
    let g = c in record { roomy = g.requires.roomy; segments_bound = g.requires.segments_bound; sought = g.requires.sought c.in-Ust.is }

pub on_usy-requires : goal.on_usy-requires
on_usy-requires c =
    let g = c in record { roomy = g.requires.roomy; segments_bound = g.requires.segments_bound.0 }

pub on_qty-requires : goal.on_qty-requires
on_qty-requires c =
    let g = c in record { fields = g.requires.fields (rw c.in-Qty.is); at_value = sym g.requires.k_value ∙ c.in-Qty.is; segments_bound = (g.requires.segments_bound.0, g.requires.roomy.loads, g.requires.roomy.grams, g.requires.roomy.back) }

pub on_cnt-requires : goal.on_cnt-requires
on_cnt-requires c =
    let g = c in record { at_value = (sym g.requires.k_value ∙ c.in-Cnt.is, cnt-right g.args.y.version (asked_at g.args.y.service g.args.s.now g.args.at) g.requires.k_value c.in-Cnt.is g.requires.m_value.1); segments_bound = g.requires.segments_bound.0 }

pub returns-in-Ush : goal.returns-in-Ush
returns-in-Ush c =
    let g = c in record { by_index = step-arm g.args.y.service g.args.s.now g.args.at g.args.m g.args.heads.now c.on_ush.result c.on_ush.new.heads Ush c.in-Ush.is c.on_ush.ensures.by_index; heads_len = c.on_ush.ensures.heads_len }

pub returns-in-Usa : goal.returns-in-Usa
returns-in-Usa c =
    let g = c in record { by_index = usa-arm g.args.y.service g.args.s.now g.args.at g.args.m g.args.heads.now c.in_header.result c.in_header.new.heads c.in_header.ensures.by_index c.in-Usa.is c.usa_group.ensures; heads_len = c.in_header.ensures.heads_len }

pub returns-in-Usc : goal.returns-in-Usc
returns-in-Usc c =
    let g = c in record { by_index = usc-arm g.args.y.service g.args.s.now g.args.at g.args.m g.args.heads.now c.in_header-in-Usc.result c.in_header-in-Usc.new.heads c.in_header-in-Usc.ensures.by_index c.in-Usc.is c.usc_group.ensures; heads_len = c.in_header-in-Usc.ensures.heads_len }

pub returns-in-Usr : goal.returns-in-Usr
returns-in-Usr c =
    let g = c in record { by_index = step-arm g.args.y.service g.args.s.now g.args.at g.args.m g.args.heads.now c.on_usr.result c.on_usr.new.heads Usr c.in-Usr.is (λ u w. c.on_usr.ensures.by_index g.args.y.service.release g.args.s.now u w); heads_len = c.on_usr.ensures.heads_len }

pub returns-in-Ust : goal.returns-in-Ust
returns-in-Ust c =
    let g = c in record { by_index = step-arm g.args.y.service g.args.s.now g.args.at g.args.m g.args.heads.now c.on_ust.result c.on_ust.new.heads Ust c.in-Ust.is c.on_ust.ensures.by_index; heads_len = c.on_ust.ensures.heads_len }

pub returns-in-Usb : goal.returns-in-Usb
returns-in-Usb c =
    let g = c in record { by_index = step-arm g.args.y.service g.args.s.now g.args.at g.args.m g.args.heads.now c.on_usb.result g.args.heads.now Usb c.in-Usb.is (λ u w. c.on_usb.ensures g.args.y.service.release g.args.s.now u w g.args.heads.now g.requires.roomy); heads_len = g.requires.segments_bound.1 }

pub returns-in-Usx : goal.returns-in-Usx
returns-in-Usx c =
    let g = c in record { by_index = usx-arm g.args.y.service g.args.s.now g.args.at g.args.m g.args.heads.now c.grown_to.result c.in-Usx.is g.requires.roomy c.grown_to.ensures; heads_len = g.requires.segments_bound.1 }

pub returns-in-Usy : goal.returns-in-Usy
returns-in-Usy c =
    let g = c in record { by_index = step-arm g.args.y.service g.args.s.now g.args.at g.args.m g.args.heads.now c.on_usy.result g.args.heads.now Usy c.in-Usy.is c.on_usy.ensures; heads_len = g.requires.segments_bound.1 }

pub returns-in-Qty : goal.returns-in-Qty
returns-in-Qty c =
    let g = c in record { by_index = step-arm g.args.y.service g.args.s.now g.args.at g.args.m g.args.heads.now c.on_qty.result g.args.heads.now Qty c.in-Qty.is (λ u w. c.on_qty.ensures u w g.args.heads.now g.requires.roomy); heads_len = g.requires.segments_bound.1 }

pub returns-in-Cnt : goal.returns-in-Cnt
returns-in-Cnt c =
    let g = c in record { by_index = step-arm g.args.y.service g.args.s.now g.args.at g.args.m g.args.heads.now c.on_cnt.result g.args.heads.now Cnt c.in-Cnt.is (λ u w. c.on_cnt.ensures u w g.args.heads.now g.requires.roomy); heads_len = g.requires.segments_bound.1 }

pub returns-in-Other : goal.returns-in-Other
returns-in-Other c =
    let g = c in record { by_index = step-arm g.args.y.service g.args.s.now g.args.at g.args.m g.args.heads.now c.on_other.result g.args.heads.now Other c.in-Other.is (λ u w. c.on_other.ensures g.args.y.service.release g.args.s.now u w g.args.heads.now g.requires.roomy); heads_len = g.requires.segments_bound.1 }

pub returns-in-Unb : goal.returns-in-Unb
returns-in-Unb c =
    let g = c in record { by_index = step-arm g.args.y.service g.args.s.now g.args.at g.args.m g.args.heads.now (Err 7) g.args.heads.now Unb c.in-Unb.is (λ u w. refl); heads_len = g.requires.segments_bound.1 }

pub returns-in-Unh : goal.returns-in-Unh
returns-in-Unh c =
    let g = c in record { by_index = step-arm g.args.y.service g.args.s.now g.args.at g.args.m g.args.heads.now (Err 7) g.args.heads.now Unh c.in-Unh.is (λ u w. refl); heads_len = g.requires.segments_bound.1 }

pub returns-in-Unt : goal.returns-in-Unt
returns-in-Unt c =
    let g = c in record { by_index = step-arm g.args.y.service g.args.s.now g.args.at g.args.m g.args.heads.now (Err 7) g.args.heads.now Unt c.in-Unt.is (λ u w. refl); heads_len = g.requires.segments_bound.1 }

pub returns-in-Unz : goal.returns-in-Unz
returns-in-Unz c =
    let g = c in record { by_index = step-arm g.args.y.service g.args.s.now g.args.at g.args.m g.args.heads.now (Err 7) g.args.heads.now Unz c.in-Unz.is (λ u w. refl); heads_len = g.requires.segments_bound.1 }

pub returns-in-Reserved : goal.returns-in-Reserved
returns-in-Reserved c =
    let g = c in record { by_index = step-arm g.args.y.service g.args.s.now g.args.at g.args.m g.args.heads.now (Err 7) g.args.heads.now Reserved c.in-Reserved.is (λ u w. refl); heads_len = g.requires.segments_bound.1 }

pub mod JapanLaws
